pub mod Terms
pub mod Bounds
pub mod Splitting

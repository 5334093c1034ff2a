pub mod Zeros
pub mod Drawing

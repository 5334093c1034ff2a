pub mod Radix
pub mod Codings
pub mod Steps
pub mod Laws

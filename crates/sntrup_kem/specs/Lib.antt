pub mod Sizes
pub mod Hashes
pub mod Kem
pub mod Laws
pub mod Faults

pub mod Kem
pub mod Laws

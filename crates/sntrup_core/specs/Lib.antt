pub mod Keys
pub mod Encryption
pub mod Laws
pub mod Faults

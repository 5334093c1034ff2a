pub mod Gcm
pub mod Groups
pub mod Hashed

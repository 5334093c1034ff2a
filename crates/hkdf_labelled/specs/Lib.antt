pub mod Suites
pub mod Hmac
pub mod Hkdf
pub mod Labels
pub mod Hashers
pub mod Macs
pub mod Expanders

pub mod Naming
pub mod Keys
pub mod Refusing
pub mod Exchanging
pub mod Telling

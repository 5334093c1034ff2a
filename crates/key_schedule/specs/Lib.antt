pub mod Psks
pub mod Schedule
pub mod Exports
pub mod Nonces
pub mod Faults
pub mod Secrets

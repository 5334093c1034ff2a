pub mod Residues
pub mod Quotient
pub mod Draws
pub mod Bound
pub mod Decryption
pub mod Masks

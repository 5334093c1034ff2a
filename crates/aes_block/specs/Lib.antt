pub mod Field
pub mod Cipher
pub mod Circuit
pub mod Sliced

pub mod Words
pub mod Sorted
pub mod Samples
pub mod Laws
pub mod Network
pub use Rattle.rand_chacha.specs.ChaCha

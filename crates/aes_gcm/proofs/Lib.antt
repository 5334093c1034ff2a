pub mod XorBytes
pub mod Streams
pub mod Opening
pub mod Published

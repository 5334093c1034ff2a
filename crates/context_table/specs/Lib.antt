pub mod Streams
pub mod Keys
pub mod Contexts
pub mod SetUp
pub mod ReplyTo
pub mod Laws
pub mod Slots

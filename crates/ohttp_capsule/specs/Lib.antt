pub mod Faults
pub mod Headers
pub mod Requests
pub mod Responses
pub mod Replies
pub mod Refusals
pub mod Laws

pub mod Passes
pub mod Seats

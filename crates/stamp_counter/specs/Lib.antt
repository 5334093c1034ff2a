pub mod Views
pub mod Rule
pub mod Steps
pub mod Laws
pub mod Seats
pub mod Stamps
pub mod Turns

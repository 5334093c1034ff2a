pub mod Begun
pub mod Effects
pub mod Input
pub mod Outcomes
pub mod Text

mod Parts
pub mod Rounds
mod Drawing
mod Agreement
mod Generating
mod Choosing
pub mod Differences

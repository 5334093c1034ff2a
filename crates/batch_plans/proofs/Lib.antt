pub mod Rooms
pub mod Counts
pub mod Positions
pub mod Numbering
pub mod CallLines
pub mod Pools
pub mod Lanes

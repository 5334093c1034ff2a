pub mod Endings
pub mod Ends
pub mod Fronts
pub mod Rehearsed
pub mod Rooms
pub mod Replied
pub mod Writing

pub mod Cuts
pub mod Fields
pub mod Lines
pub mod Printing
pub mod HexLanes
pub mod Buffers
pub mod Readings

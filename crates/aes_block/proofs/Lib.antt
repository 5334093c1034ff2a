pub mod ByteTables
pub mod Circuit
pub mod Expanding
pub mod Lengths
pub mod Published
pub mod States
pub mod Turning

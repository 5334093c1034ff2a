pub mod Chains
pub mod Leaves
pub mod LinesLeft
pub mod LanesLeft
pub mod GivenLines

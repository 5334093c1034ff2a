pub mod Opening
pub mod Tags

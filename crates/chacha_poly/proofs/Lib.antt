pub mod Opening
pub mod Published

pub mod BitLaws
pub mod LadderLaws
pub mod ClampLaws
mod Published

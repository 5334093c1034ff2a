pub mod Totals
pub mod Drawn
pub mod Steps
pub mod Ends
pub mod Apart
pub mod Ids
pub mod Dealing
pub mod Stamping

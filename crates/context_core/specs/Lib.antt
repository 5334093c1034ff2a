pub mod Rehearsals
pub mod Books
pub mod Following
pub mod Preparing
pub mod Core
pub mod ScheduleRows
pub mod CoreStages
pub mod Openings

pub mod Tables
pub mod Turns
pub mod Own
pub mod LiveRuns

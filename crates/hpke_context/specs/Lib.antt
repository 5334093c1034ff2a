pub mod Answers
pub mod Contexts
pub mod Faults
pub mod Calls

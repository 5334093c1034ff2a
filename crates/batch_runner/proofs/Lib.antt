pub mod Texts
pub mod Serves
pub mod LiveSetUp
pub mod Demonstrated

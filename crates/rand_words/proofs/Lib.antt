pub mod SortedOnce
pub mod Lists
pub mod MarkLaws
pub mod SampleLaws
pub mod Exchanges
pub mod Turned
pub mod InOrder
pub mod Padded

pub mod Lists
pub mod Lookups
pub mod Once
pub mod Pairs
pub mod Records
pub mod Sizes

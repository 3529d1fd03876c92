pub mod Breaches
pub mod Calls
pub mod Refusals
pub mod Sessions
pub mod Shown

pub mod Calls
pub mod Held
pub mod Laws
pub mod Opening
pub mod Outcomes
pub mod Reading
pub mod Seen
pub mod Tables

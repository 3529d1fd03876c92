pub mod ChargeLaws
pub mod Calls
pub mod OnesLaws

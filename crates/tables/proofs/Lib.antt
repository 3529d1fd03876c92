mod Cutting
mod Looking
mod Checking
mod Telling
mod Placing
mod Naming
pub mod Viewing

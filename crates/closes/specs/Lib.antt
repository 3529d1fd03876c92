pub mod Fronts
pub mod Search
pub mod Braced
pub mod Compose
pub mod Closes
pub mod CloseLaws

pub mod Frames
pub mod Stacks
pub mod Endings
pub mod Outcomes
pub mod Slots
pub mod Plains

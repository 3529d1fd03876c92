pub mod Marks
pub mod Notes

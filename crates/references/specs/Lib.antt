pub mod Operators
pub mod Braces
pub mod Reads

pub mod Glyphs
pub mod Names
pub mod Reads
pub mod NameLaws

pub mod Pieces
pub mod Items
pub mod Looks
pub mod Reading

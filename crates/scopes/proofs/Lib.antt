pub mod MarksLaws
mod NotesLaws
pub mod PlacedLaws

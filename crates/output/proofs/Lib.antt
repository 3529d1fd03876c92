pub mod OutputLaws

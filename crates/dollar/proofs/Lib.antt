pub mod OpeningLaws
pub mod ToldLaws
pub mod ValuesLaws

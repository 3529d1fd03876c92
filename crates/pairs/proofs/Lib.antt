pub mod FirstsLaws
pub mod KeptLaws
mod ListsLaws
pub mod News
pub mod RecordsLaws

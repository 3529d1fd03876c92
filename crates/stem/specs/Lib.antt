pub mod Stems
pub mod StemLaws

pub mod GlyphLaws
pub mod ReadLaws
pub mod TextLaws
pub mod NameLaws

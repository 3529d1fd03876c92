pub mod LookLaws
pub mod ByteLaws

pub mod SearchLaws
pub mod OpenedLaws
pub mod BracedLaws
pub mod ReachLaws
pub mod BodyLaws
pub mod ComposeLaws
pub mod LineLaws
pub mod CloseLaws

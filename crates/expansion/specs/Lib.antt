pub mod Events
pub mod Walks
pub mod Trials
pub mod Laws
pub mod Segments
pub mod References
pub mod Lengths
pub mod WalkLaws

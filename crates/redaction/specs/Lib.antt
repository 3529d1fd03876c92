pub mod Drafts
pub mod Orders
pub mod Redactions
pub mod Splices

pub mod Drafts
pub mod Again
pub mod Tag

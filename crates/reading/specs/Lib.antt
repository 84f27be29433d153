pub mod Reading
pub mod Listed

pub mod Additions
pub mod Commas
pub mod Fields
pub mod Numbers

pub mod Pushes
pub mod Additions
pub mod Numbers
pub mod Extends

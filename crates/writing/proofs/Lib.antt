pub mod Puts
pub mod Adds
pub mod Seals
pub mod Filling
pub mod Rewriting
pub mod SameBytes

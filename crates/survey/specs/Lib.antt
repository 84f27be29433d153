pub mod Pieces
pub mod Registered
pub mod Terms

pub mod Readings
pub mod Lists
pub mod Passing

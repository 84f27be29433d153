pub mod Lists
pub mod Added
pub mod Tables
pub mod Numbers
pub mod Refusals

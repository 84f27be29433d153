pub mod Calendar
pub mod Stamp

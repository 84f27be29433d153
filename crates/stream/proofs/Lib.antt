pub mod Works
pub mod Progress
pub mod Histories
pub mod Turns
pub mod Views
pub mod Carrying
pub mod Audits
pub mod Feedings

pub mod Answers
pub mod View
pub mod History
pub mod Law
pub mod Requests
pub mod Theorems
pub mod Feeding

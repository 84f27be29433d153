pub mod Parts
pub mod Questions
pub mod Cuts
pub mod Codec
pub mod Blocks
pub mod Registers
pub mod Writes
pub mod Gains

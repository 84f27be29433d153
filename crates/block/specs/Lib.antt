pub mod Parts
pub mod Entries
pub mod Blocks
pub mod Packing
pub mod Unpacking
pub mod Theorems

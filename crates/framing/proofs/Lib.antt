pub mod Sums
pub mod Listed
pub mod BinaryFrames
pub mod SentenceFrames
pub mod Closings

pub mod Guides

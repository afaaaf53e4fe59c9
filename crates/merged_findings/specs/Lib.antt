pub mod Restricting
pub mod Merged
pub mod Pairs

pub mod Innermost
pub mod Holding
pub mod Parts

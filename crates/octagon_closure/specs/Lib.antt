pub mod Best
pub mod Sweeps

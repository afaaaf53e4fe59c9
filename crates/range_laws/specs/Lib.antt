pub mod Ends
pub mod Arithmetic
pub mod Cuts
pub mod Nearest
pub mod Joins
pub mod Remainders
pub mod Clips
pub mod Folds

pub mod Named
pub mod Numerals
pub mod Spelling
pub mod Summed
pub mod Compared
pub mod Piecewise
pub mod Joined

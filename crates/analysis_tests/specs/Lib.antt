pub mod Families
pub mod Loops

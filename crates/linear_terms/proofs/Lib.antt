pub mod Bounds
pub mod Integers
pub mod Merges
pub mod Products
pub mod Sums
pub mod Values

pub mod Sizes
pub mod LeastValues
pub mod Sides
pub mod Differences
pub mod Tightened
pub mod Products
pub mod Linearised

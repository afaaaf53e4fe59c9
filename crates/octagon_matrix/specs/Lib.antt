pub mod Terms
pub mod Matrices
pub mod Stores
pub mod View
pub mod Equality

pub mod SharpLeaves
pub mod View
pub mod Hashing
pub mod Laws
pub mod BelowIntervals

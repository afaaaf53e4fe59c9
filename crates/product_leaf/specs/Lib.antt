pub mod StrideLeaves
pub mod Exact
pub mod View
pub mod Hashing
pub mod Laws

pub mod Parts
pub mod PartLaws
pub mod Lifted
pub mod Exact

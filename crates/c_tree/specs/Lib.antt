pub mod Tree
pub mod View
pub mod Value
pub mod Places
pub mod Fit
pub mod Whole
pub mod Project
pub mod Run

pub mod Views
pub mod Values
pub mod Listed
pub mod Starts
pub mod Wholes

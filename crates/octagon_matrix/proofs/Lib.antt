pub mod Terms
pub mod Places
pub mod Cells
pub mod Inside
pub mod Stores
pub mod Rows

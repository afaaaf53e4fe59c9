pub mod Loading
pub mod Right
pub mod Selecting

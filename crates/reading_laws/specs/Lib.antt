pub mod Sectioned
pub mod Staying
pub mod Declaring
pub mod Shown
pub mod Answered
pub mod Models
pub mod Settings
pub mod Families

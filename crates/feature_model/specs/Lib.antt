pub mod Constraints
pub mod Features
pub mod Models
pub mod Names
pub mod Settings
pub mod Shapes
pub mod Stages

pub mod Stages
pub mod Limits
pub mod Reading
pub mod Taking

pub mod Keys
pub mod Once
pub mod Reached
pub mod Refusing
pub mod Reporting

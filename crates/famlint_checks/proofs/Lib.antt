pub mod Checking
pub mod Refusing

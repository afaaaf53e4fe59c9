pub mod Answered
pub mod Equations
pub mod Growing
pub mod Holding
pub mod Mapping
pub mod Restricting
pub mod Steps
pub mod Unions

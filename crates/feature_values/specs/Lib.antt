pub mod Declarators
pub mod Laws
pub mod Moved
pub mod Values

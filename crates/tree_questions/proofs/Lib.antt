pub mod Asked
pub mod Before
pub mod Improving
pub mod Sides
pub mod Restricted

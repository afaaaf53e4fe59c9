pub mod Calls
pub mod Known
pub mod Leafwise
pub mod Leaves
pub mod Made
pub mod Sides
pub mod Subtrees
pub mod Formulas

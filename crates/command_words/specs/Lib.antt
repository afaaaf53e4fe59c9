pub mod Arguments
pub mod Options
pub mod Sorting
pub mod Spelling

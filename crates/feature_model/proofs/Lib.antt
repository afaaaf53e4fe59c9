pub mod Adding
pub mod Answering
pub mod Ending
pub mod Judging
pub mod Once
pub mod Repeating
pub mod Setting
pub mod Valued

pub mod NoElse
pub mod Clauses
pub mod MoreWords

pub mod Inside
pub mod PartLemmas
pub mod Meanings
pub mod FormSums
pub mod ExactLaws

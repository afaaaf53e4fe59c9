pub mod Multiples
pub mod Remainders
pub mod StrideLaws
pub mod Digits
pub mod StridedLaws
pub mod WideningLaws
pub mod WideLaws
pub mod InclusionLaws

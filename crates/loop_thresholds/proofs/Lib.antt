pub mod Saturated
pub mod Kept
pub mod Insertions
pub mod ThresholdLaws

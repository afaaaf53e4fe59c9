pub mod BelowParts
pub mod Answered
pub mod WideStrides
pub mod RangesWithin
pub mod StridesWithin
pub mod BelowIntervals
pub mod BelowStrides

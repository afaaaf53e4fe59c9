pub mod EndLemmas
pub mod ArithmeticEnds
pub mod CutEnds
pub mod NearestSteps
pub mod Hulls
pub mod RemainderEnds
pub mod ClippedEnds
pub mod FoldedEnds

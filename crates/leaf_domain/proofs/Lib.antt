pub mod RangeEquations
pub mod ArithmeticLemmas
pub mod CutLemmas
pub mod WrapEquations
pub mod FoldLemmas
pub mod LeafEquality
pub mod FormLemmas
pub mod AtNothing
pub mod Answered
pub mod NodeEquations
pub mod Variables
mod FormValues
mod Results
mod Comparisons
mod SoundNodes
mod SoundLemmas
mod SoundStops
mod FitLemmas
pub mod ThresholdLemmas
pub mod EndLemmas
pub mod Zipped
pub mod StepSums
pub mod OnlyHeld

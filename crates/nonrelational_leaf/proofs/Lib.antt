pub mod PartLists
pub mod LiftedLaws
pub mod LiftedExactness

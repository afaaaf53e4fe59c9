pub mod FourFeatures
pub mod Literals
pub mod OneFeature

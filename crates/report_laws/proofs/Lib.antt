pub mod Configurations
pub mod FamilyLines
pub mod LeafTexts
pub mod RegionTexts

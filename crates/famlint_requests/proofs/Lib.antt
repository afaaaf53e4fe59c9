pub mod GuideWords
pub mod PageOptions

pub mod MoreWords
pub mod StaticItems
pub mod Counted

pub mod FamilyReports
pub mod Stores

pub mod Views
pub mod Signs

pub mod Numbers
pub mod Thresholds
pub mod Keeping
pub mod Laws

pub mod ReadBack
pub mod Written
pub mod Laws
pub mod Accepted
pub mod Certified
pub mod Readings

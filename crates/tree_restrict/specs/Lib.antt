pub mod Known
pub mod Mapped
pub mod Reached
pub mod Restricted

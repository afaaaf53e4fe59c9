pub mod Order
pub mod Terms

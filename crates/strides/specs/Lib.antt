pub mod Divisors
pub mod Strides
pub mod Strided

pub mod Remainders
pub mod TwoStrides
pub mod Squares
pub mod Quotients
pub mod Congruences
pub mod Laws

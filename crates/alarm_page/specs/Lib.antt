pub mod Escapes
pub mod Laws
pub mod Pages
pub mod Parts

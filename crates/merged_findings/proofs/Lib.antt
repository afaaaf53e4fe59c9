pub mod Restricting
pub mod Leading
mod Promised
mod Pairing
mod Made

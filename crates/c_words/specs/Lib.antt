pub mod Bytes
pub mod Identifiers
pub mod Keywords
pub mod Numbers

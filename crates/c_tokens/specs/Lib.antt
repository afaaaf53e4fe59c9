pub mod Characters
pub mod Lexemes
pub mod Lines
pub mod Reading

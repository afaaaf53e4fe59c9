pub mod Bytes
pub mod Joined
pub mod Numbers
pub mod Reading
pub mod Sections
pub mod Told

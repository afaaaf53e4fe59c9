pub mod Advising
pub mod Analysed
pub mod Told
pub mod Foretold
pub mod Generated
pub mod Paging
pub mod States

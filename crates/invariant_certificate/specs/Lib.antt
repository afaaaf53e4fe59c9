pub mod Passes
pub mod Failing
pub mod Verdicts
pub mod FirstFailing

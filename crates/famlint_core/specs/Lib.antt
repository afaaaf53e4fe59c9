pub mod Answers
pub mod Certified
pub mod Endings
pub mod Runs
pub mod Theorem
pub use Rattle.famlint_loads.specs.Contents
pub use Rattle.famlint_loads.specs.Loads
pub use Rattle.famlint_requests.specs.Requests

mod Blocks
mod Valid
pub mod Cases
pub mod BlockTexts
pub mod Conditions
pub mod FewAtoms
pub mod Signs
pub mod Statements
pub mod BlockLines
pub mod Blanked
pub mod Told
pub mod NameFaults
pub mod Lexed
pub mod NoFunctions
pub mod FreeNames
pub mod NoLoops
pub mod Accepted

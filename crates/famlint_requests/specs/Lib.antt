pub mod Commands
pub mod Guides
pub mod MadeBy
pub mod Requests

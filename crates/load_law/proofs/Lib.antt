pub mod Questions
pub mod Steps
pub mod Moves
pub mod Turns
pub mod Were
pub mod Runs
pub mod Listed

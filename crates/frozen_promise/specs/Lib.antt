pub mod OneRun
pub mod Accepted

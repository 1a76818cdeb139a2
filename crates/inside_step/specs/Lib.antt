pub mod Completion
pub mod Making

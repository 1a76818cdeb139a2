pub mod Counts
pub mod Inside
pub mod Outside
pub mod Questions
pub mod Steps

pub mod Kept
pub mod Resources

pub mod Showing
pub mod Writing
pub mod Generating
pub mod Demonstrating
pub mod Upgrading

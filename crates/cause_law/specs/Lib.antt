pub mod Closing
pub mod Presented
pub mod Causes

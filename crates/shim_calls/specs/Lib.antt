pub mod Copying
pub mod Stepping

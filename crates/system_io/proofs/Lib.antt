pub mod Writes
pub mod Windows
pub mod Held

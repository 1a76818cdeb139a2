pub mod Limits
pub mod Owed
pub mod Roots
pub mod Words
pub mod Files
pub mod Endings

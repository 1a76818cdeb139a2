pub mod Born
pub mod Changes
pub mod Hits
pub mod Misses
pub mod Tables
pub mod Walks

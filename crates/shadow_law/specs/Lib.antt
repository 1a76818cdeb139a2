pub mod Agreeing
pub mod Misses
pub mod Tables
pub mod Walks

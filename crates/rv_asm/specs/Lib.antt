pub mod Assembly
pub mod Atomics
pub mod Listing
pub mod Operations
pub mod Statements
pub mod Words

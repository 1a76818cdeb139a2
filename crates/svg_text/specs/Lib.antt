pub mod Labels
pub mod Characters
pub mod Tree
pub mod Writing

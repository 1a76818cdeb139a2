pub mod Words
pub mod Draws
pub mod Skips
pub mod ToldFacts
pub mod Pieces
pub mod Tables
pub mod Shelves

pub mod Sentence
pub mod Showing

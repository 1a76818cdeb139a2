pub mod Counting
pub mod Showing
pub mod Answering

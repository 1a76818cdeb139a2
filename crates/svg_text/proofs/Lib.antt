pub mod Trees
pub mod Putting

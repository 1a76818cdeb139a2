pub mod Counting
pub mod Ending
pub mod Lines
pub mod Standing
pub mod Turns
pub mod Thawing

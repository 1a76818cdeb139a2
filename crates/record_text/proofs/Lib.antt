pub mod Shown
pub mod Counted
pub mod SoFar
pub mod Answered

pub mod Texts
pub mod Placed
pub mod Fits
pub mod ObjectsSoFar
pub mod Answered

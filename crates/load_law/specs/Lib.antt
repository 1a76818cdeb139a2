pub mod Due
pub mod Outcomes

pub mod Zeros
pub mod Chain

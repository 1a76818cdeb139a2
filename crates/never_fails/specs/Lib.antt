pub mod Sums
pub mod Handed

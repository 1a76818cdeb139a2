pub mod Moves
pub mod Deeds
pub mod LatestStore
pub mod Sums

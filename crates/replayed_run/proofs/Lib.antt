pub mod Followed
pub mod NotedMore
pub mod PlacedMore

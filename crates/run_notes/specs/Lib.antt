pub mod Columns
pub mod Marking
pub mod Moving
pub mod Noting
pub mod Planning
pub mod Rowing
pub mod Sights
pub mod Turning

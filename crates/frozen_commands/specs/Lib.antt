pub mod Writing
pub mod Freezing
pub mod Saving
pub mod FreezeAnswering
pub mod Thawing
pub mod WholeRun
pub mod ThawAnswering
pub mod TwoRuns

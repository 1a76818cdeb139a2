pub mod Leaving
pub mod Preparing
pub mod Recording
pub mod Writing
pub mod Answering
pub mod TwoRuns
pub mod NextRun

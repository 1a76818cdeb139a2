pub mod AnswerFacts
pub mod Lengths
pub mod Refused
pub mod RunFacts
pub mod StoredFacts
pub mod TwoRuns
pub mod NextRun

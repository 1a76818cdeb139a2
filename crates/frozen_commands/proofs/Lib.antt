pub mod WrittenFacts
pub mod FirstFacts
pub mod StateFacts
pub mod FreezeFacts
pub mod RestFacts
pub mod WholeFacts
pub mod ThawFacts
mod JudgedFacts
mod Refused
pub mod SameWords
pub mod TwoRuns

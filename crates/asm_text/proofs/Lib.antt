pub mod LineFacts
pub mod ReasonFacts
pub mod ShownFacts

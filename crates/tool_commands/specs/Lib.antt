pub mod KindNames
pub mod ToolSaying
pub mod ToolAnswering
pub mod ToolExiting
pub mod ToolSentence

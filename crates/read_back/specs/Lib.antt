pub mod Reading
pub mod Items
pub mod Text
pub mod Screen
pub mod Viewing
pub mod Answering
pub mod Over
pub mod AnsweringOver

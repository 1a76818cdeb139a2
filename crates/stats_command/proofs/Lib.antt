pub mod CountFacts
pub mod AnswerFacts

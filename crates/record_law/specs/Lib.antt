pub mod Items
pub mod OneRecord
pub mod Written
pub mod Steps

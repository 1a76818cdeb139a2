pub mod Written
pub mod Read
pub mod Made
pub mod Readable
pub mod Again

pub mod Places
pub mod Signs
pub mod Words

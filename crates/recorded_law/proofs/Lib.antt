pub mod Ended
pub mod Refused

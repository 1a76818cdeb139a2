pub mod Holding
pub mod Tracking
pub mod Seeing
pub mod Offering
pub mod Telling
pub mod Leading
pub mod Atomic
pub mod Ending

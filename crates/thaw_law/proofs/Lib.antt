pub mod Programs
pub mod Steps
pub mod Runs
pub mod TwoParts
pub mod FreezeThaw

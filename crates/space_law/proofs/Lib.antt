pub mod Births
pub mod Ended
pub mod Hypercalls
pub mod Mapped
pub mod Outside
pub mod Questions
pub mod Regions
pub mod Turns

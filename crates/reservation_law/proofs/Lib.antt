pub mod Keeping
pub mod Plain
pub mod Sizes
pub mod Items
pub mod Turns
pub mod Opened
pub mod Moments
pub mod Runs

pub mod Counted
pub mod Drawn
pub mod Lengths
pub mod Images
pub mod Puts

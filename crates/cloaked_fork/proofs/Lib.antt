pub mod Asks
pub mod Freed
pub mod Room
pub mod Laters

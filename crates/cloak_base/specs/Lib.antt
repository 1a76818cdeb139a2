pub mod Registers
pub mod Random
pub mod Pages
pub mod Constants

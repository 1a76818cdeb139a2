pub mod Inside
pub mod Registers

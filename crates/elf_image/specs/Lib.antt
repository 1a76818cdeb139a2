pub mod Elf
pub mod Image
pub mod Faults
pub mod Views

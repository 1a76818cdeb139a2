pub mod Console
pub mod KernelText
pub mod Putting

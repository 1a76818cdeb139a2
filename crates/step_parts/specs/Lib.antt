pub mod Parts
pub mod SameStep

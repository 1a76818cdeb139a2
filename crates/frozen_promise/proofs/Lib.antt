pub mod OneRun
pub mod Lengths
pub mod NoFault
pub mod Whole
pub mod Sources
pub mod Refused
pub mod Accepted

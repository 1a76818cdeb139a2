pub mod Joined
pub mod KernelSaid
pub mod PutFacts

pub mod Told
pub mod Memory
pub mod Source
pub mod Table
pub mod Sinks
pub mod Skipping

pub mod Laws
pub mod Writing
pub mod Reading
pub mod Moving

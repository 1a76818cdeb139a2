pub mod Laws
pub mod OwedPages
pub mod Reading
pub mod Shapes
pub mod Writing

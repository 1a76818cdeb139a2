pub mod Vectors
pub mod States
pub mod StoreFiles

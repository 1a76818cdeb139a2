pub mod Files
pub mod Pages
pub mod Rows

pub mod Names
pub mod Items
pub mod Kinds
pub mod Lines
pub mod Counting
pub mod Reading
pub mod Showing
pub mod Taking

pub mod Agreeing
pub mod Counting
pub mod Finding
pub mod Follows
pub mod Keys
pub mod Looks
pub mod Rows

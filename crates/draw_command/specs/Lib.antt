pub mod Doing
pub mod Hearing
pub mod Replaying
pub mod Reading
pub mod Drawing

pub mod Layout
pub mod Drawing
pub mod Generated
pub mod Summary

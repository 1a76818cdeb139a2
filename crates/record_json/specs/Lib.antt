pub mod Members
pub mod Objects
pub mod JsonText
pub mod Showing
pub mod Taking
pub mod JsonLaw

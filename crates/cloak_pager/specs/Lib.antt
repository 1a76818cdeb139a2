pub mod Homes
pub mod State
pub mod Turns
pub mod Relation
pub mod Asking
pub mod Lending
pub mod Calls
pub mod Freezing

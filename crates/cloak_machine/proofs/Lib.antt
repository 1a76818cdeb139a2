pub mod DomainOrder
pub mod Opening
pub mod GoingOn
pub mod Stepping
pub mod Turning
pub mod Closed
pub mod Keys

pub mod Lending
pub mod Stepping
pub mod Written

pub mod Deeds
pub mod Writes
pub mod Reservations

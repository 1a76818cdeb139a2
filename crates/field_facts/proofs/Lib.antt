pub mod Firsts
pub mod Stands
pub mod Again

pub mod Ciphers
pub mod Keys
pub mod OwnPages
pub mod Loads

pub mod Assembling
pub mod Telling
pub mod Making
pub mod Commanded

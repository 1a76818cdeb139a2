pub mod Past
pub mod TwoParts
pub mod FreezeThaw

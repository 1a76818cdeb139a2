pub mod Asked
pub mod Complete
pub mod BundleFirst
pub mod Faultless
pub mod WordsAnswered
pub mod OnDisk

pub mod Answering
pub mod BundleFirst
pub mod Program
pub mod OnDisk

pub mod Filled
pub mod Windows
pub mod Answering
pub mod InOrder

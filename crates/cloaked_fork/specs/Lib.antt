pub mod Marks
pub mod Left
pub mod Homes
pub mod Serving

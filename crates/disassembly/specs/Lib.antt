pub mod Listing
pub mod ReadingBack
pub mod Disassembling
pub mod ImageParts

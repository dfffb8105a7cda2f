pub mod Keywords
pub mod Spelling
pub mod Listing
pub mod Answer
pub mod Depths
pub mod Decoding

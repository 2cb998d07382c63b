pub mod Stream
pub mod Converted
pub mod Enough

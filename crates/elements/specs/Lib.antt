pub mod Elements
pub mod Formats
pub mod Numbers
pub mod Slots
pub mod Held
pub mod Listed

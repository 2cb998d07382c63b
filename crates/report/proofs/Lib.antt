pub mod Slots
pub mod Fits
pub mod Done
pub mod OneAnswer
pub mod Examples

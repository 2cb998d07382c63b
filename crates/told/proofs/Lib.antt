pub mod Refused
pub mod Fits
pub mod Stored
pub mod OneAnswer

pub mod Fits
pub mod OneAnswer

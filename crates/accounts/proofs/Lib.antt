pub mod Told
pub mod Fits
pub mod OneAnswer

pub mod Head
pub mod Lengths
pub mod OneAnswer
pub mod Packed
pub mod Whole

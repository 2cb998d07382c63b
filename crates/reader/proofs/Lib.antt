pub mod Filled
pub mod OneAnswer
pub mod Peeked
pub mod Whole

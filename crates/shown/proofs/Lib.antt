pub mod Pairs
pub mod OneAnswer

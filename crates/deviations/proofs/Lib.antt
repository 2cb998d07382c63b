pub mod Formed
pub mod OneAnswer

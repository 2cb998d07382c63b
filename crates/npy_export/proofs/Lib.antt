pub mod Body
pub mod Put
pub mod Passed
pub mod OneAnswer

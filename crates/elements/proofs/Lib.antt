pub mod OneAnswer
pub mod Opened
pub mod Parts
pub mod States
pub mod Vector

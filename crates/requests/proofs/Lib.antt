pub mod Letters
pub mod Begins
pub mod Parts
pub mod Asked
pub mod OneAnswer
pub mod Examples

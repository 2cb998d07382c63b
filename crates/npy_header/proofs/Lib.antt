pub mod Filled
pub mod Headers
pub mod Digits
pub mod Spelled
pub mod Breaks
pub mod Held
pub mod Examples
pub mod OneAnswer

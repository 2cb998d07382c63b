pub mod Refined
pub mod Counted
pub mod Room
pub mod Fits
pub mod Loop
pub mod OneAnswer
pub mod Examples

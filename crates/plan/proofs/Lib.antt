pub mod Bounds
pub mod Checked
pub mod Counts
pub mod EqualZero
pub mod OneAnswer
pub mod Ordered
pub mod Raised

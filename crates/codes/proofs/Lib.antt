pub mod Bounds
pub mod CodesRead
pub mod Counts
pub mod Filled
pub mod Marked
pub mod OneAnswer
pub mod Told
pub mod Whole

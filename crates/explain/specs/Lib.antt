pub mod Spans
pub mod Slots
pub mod Explained
pub mod Found
pub mod Joined

pub mod Slots
pub mod Ends
pub mod Stopped
pub mod Places
pub mod Joined
pub mod Tells
pub mod OneAnswer

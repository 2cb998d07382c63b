pub mod Places
pub mod Matrix
pub mod Held
pub mod Imported
pub mod Entries
pub mod Trips
pub mod OneAnswer

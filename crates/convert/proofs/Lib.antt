pub mod Given
pub mod Made
pub mod Makes
pub mod Enough
pub mod OneAnswer
pub mod Examples

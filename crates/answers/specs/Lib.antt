pub mod Table
pub mod Listed
pub mod Row
pub mod Lent
pub mod Every
pub mod OneAnswer
pub mod Outcome

pub mod Table
pub mod Letters
pub mod OneAnswer

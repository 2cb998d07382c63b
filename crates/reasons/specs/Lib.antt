pub mod Sentences
pub mod Reason

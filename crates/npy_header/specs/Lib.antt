pub mod Header
pub mod Rules
pub mod Breaks

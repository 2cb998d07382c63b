pub mod Rules
pub mod Named
pub mod Turns
pub mod Decided

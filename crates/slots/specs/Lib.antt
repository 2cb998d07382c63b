pub mod Slots
pub mod Rules
pub mod Listed
pub mod Fill

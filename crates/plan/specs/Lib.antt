pub mod Zero
pub mod Rules
pub mod Places
pub mod Listed
pub mod Tally

pub mod Rules
pub mod Listed
pub mod Read
pub mod Rows

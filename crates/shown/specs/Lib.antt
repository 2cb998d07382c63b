pub mod Bytes
pub mod Lines
pub mod Touched
pub mod Written
pub mod Pack

pub mod Lookup
pub mod Usable

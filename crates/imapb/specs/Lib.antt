pub mod Mapping
pub mod Special
pub mod Tables
pub mod Precision

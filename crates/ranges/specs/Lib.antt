pub mod Floor
pub mod Range
pub mod Tables
pub mod Instance
pub mod Facts

pub mod Range
pub mod Form

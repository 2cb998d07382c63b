pub mod Form
pub mod Fields
pub mod Request
pub mod States

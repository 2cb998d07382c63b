pub mod Pack
pub mod Rules

pub mod Ruled
pub mod Control
pub mod Triangle
pub mod Header
pub mod Size

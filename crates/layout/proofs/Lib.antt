pub mod RowByRow
pub mod Along
pub mod Ruled
pub mod Rules
pub mod Peek
pub mod OneAnswer
pub mod Fits

pub mod Cells
pub mod Deviation
pub mod FirstAll
pub mod Asked
pub mod OneAnswer

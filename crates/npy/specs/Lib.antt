pub mod Matrix
pub mod Rules
pub mod Left
pub mod Trips

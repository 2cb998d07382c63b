pub mod Entries
pub mod Fits
pub mod Printed
pub mod OneAnswer

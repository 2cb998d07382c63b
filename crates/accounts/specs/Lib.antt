pub mod Account
pub mod Held

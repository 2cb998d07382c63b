pub mod Digits
pub mod Words
pub mod BerOid
pub mod Ber
pub mod Conversions

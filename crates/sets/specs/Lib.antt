pub mod Tags
pub mod Parts
pub mod Items
pub mod Packs
pub mod Rules
pub mod Handed
pub mod Taken

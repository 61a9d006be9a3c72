pub mod OverFields
pub mod Images
pub mod SlotBytes
pub mod Lent
pub mod Standing

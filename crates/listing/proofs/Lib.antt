-- words and numbers
pub mod Writing
-- lines
pub mod SlotLines
pub mod Whole

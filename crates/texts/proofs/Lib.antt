-- numbers
pub mod Digits
-- pieces, one after the other
pub mod Writing

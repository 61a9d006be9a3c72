-- one turn of a loop
pub mod Turns
pub mod Pieces
-- one slot
pub mod Unpacking
pub mod Places
pub mod WellSlots
-- one outcome
pub mod OneAnswer

-- the table, slot by slot
pub mod SlotParts
pub mod Chains
pub mod Turns
pub mod Marking
pub mod WellTables
-- looking up
pub mod LookingUp
pub mod Records

-- The laws of the salvage: what is found of a slot, one slot settled, the slots one after another, and the three outcomes.
pub mod Below
pub mod Settling
pub mod Leaving
pub mod Reporting
pub mod Outcomes

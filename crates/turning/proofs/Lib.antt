-- The laws of the turning: a slot marked, the slots of a table one after another, and the three outcomes.
pub mod Marking
pub mod Marked
pub mod Outcomes

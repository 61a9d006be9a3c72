-- kind 8
pub mod ListedSlots
pub mod Growth
pub mod Closing
-- kind 9
pub mod Informed
-- both
pub mod Untouched

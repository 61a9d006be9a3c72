-- a tally worked out from the slots
pub mod Lanes
pub mod Counting
-- a tally brought up to date
pub mod Changing
pub mod Answering

pub mod Querying
-- one outcome
pub mod OneAnswer

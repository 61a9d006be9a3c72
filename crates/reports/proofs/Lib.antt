-- lines
pub mod FindingLines
-- the whole
pub mod Whole

-- The law that callers of the builders cite.
pub mod Joining

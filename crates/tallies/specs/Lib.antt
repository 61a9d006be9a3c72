pub mod Shares
pub mod Changes

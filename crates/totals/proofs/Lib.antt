pub mod Telling
pub mod Outcomes

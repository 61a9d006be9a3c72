pub mod Searching
pub mod OneAnswer

pub mod Answers
pub mod Deciding

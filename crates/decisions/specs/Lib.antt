pub mod Decisions
pub mod Serving

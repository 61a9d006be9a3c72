pub mod Places
pub mod Heads
pub mod Taken
pub mod Rules

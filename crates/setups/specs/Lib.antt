pub mod Sending
pub mod Reserving

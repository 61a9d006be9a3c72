pub mod Call
pub mod Obeying

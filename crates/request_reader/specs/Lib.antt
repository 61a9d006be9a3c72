pub mod Asking
pub mod Answer

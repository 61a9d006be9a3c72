pub mod Again
pub mod Judged
pub mod LookUp
pub mod Marks

pub mod Written
pub mod Put

pub mod Shapes
pub mod Meanings
pub mod ReadBack
pub mod OneAnswer

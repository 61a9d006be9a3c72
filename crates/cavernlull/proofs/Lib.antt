pub mod SmallNumbers
pub mod ReadInto

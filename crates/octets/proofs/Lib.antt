-- Laws that the functions' proofs cite, and those that callers may.
pub mod ByteBounds
pub mod Parts
pub mod Copying
pub mod Comparing

pub mod Choices
mod InstallTests
pub mod Meaning
pub mod ByCase

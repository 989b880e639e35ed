pub mod Comparing
pub mod Needed
pub mod Shortened

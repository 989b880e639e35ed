pub mod Words
pub mod Lines
pub mod Differ
pub mod Outcome
pub mod Report

pub mod Freshness
pub mod Guard
pub mod Rows

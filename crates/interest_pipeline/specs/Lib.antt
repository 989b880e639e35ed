pub mod Rtt
pub mod Window
pub mod Places
pub mod Flight
pub mod Pipeline
pub mod Runs

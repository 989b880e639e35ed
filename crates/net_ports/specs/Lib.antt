pub mod Arrivals
pub mod Links
pub mod Handshakes
pub mod Holdings

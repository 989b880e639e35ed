pub mod Heard
pub mod Silent
pub mod Spared
pub mod Meeting

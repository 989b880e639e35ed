pub mod Turns
pub mod Wrapped
pub mod Meeting
pub mod Strangers

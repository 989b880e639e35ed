pub mod Mac
pub mod Started

pub mod Commands
pub mod Reading
pub mod Tables
pub mod Writing
pub mod Windows
pub mod Room
pub mod Steps

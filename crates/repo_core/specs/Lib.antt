pub mod Commands
pub mod Reading
pub mod Objects
pub mod Wants
pub mod Repo
pub mod Writing
pub mod Room

pub mod Journal
pub mod Journalled
pub mod Text
pub mod Appending
pub mod Replay
pub mod LastFiles

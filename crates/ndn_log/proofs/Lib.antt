pub mod Following
pub mod Leaving
pub mod Printable
pub mod Sharing
pub mod Steps
pub mod Telling

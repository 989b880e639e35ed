pub mod Fault
pub mod Parameters
pub mod Reply
pub mod Commands
pub mod Shown
pub mod Lists
pub mod Exchange

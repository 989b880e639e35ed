pub mod Texts
mod Removed
pub mod FullNames
pub mod Places
pub mod Kept
pub mod Near
pub mod Spares
pub mod Limits
pub mod Verbs
pub mod Stored
pub mod SameNames

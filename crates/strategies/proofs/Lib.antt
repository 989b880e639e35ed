pub mod Places
pub mod FaceSets
pub mod Gathered
pub mod Chosen

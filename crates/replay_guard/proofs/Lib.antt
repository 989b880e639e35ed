pub mod Signers
pub mod Rows
pub mod Past

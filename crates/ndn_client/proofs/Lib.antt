pub mod Refusals
pub mod Stems

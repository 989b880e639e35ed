pub mod Inputs
pub mod EcdsaChecks

pub mod Eligible
pub mod Selection
pub mod Choice
pub mod Laws

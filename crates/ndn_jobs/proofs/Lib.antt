pub mod Nonces
pub mod Spelling
pub mod Endpoints
pub mod Lines
pub mod Jobs
pub mod ShortForms
pub mod RepositoryForms

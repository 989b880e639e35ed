pub mod Link
pub mod Clients
pub mod Table

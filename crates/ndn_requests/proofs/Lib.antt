pub mod Back
pub mod Nodes
pub mod Repositories
pub mod Replies
pub mod Refusals

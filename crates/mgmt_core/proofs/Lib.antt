pub mod Strategies
pub mod OpenFaces
pub mod Texts
pub mod Windows
pub mod Replies
pub mod OpenRoutes
pub mod Statuses
pub mod Bounds

pub mod NoRoutes
pub mod OpenRoutes

pub mod RouteRoom
pub mod PendingRoom

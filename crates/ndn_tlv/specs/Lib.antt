pub mod Number
pub mod Element
pub mod Reading
pub mod Elements
pub mod Options
pub mod Fields
pub mod Writing

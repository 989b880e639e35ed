pub mod Line
pub mod Plain
pub mod Field
pub mod Reading
pub mod Head
pub mod Origin

pub mod Pieces
pub mod Names
pub mod Segment
pub mod CutFaults
pub mod Cut
pub mod Held
pub mod Assembling
pub mod Assembles

pub mod Store
pub mod Entry
pub mod Sought
pub mod PlaceBlocks
pub mod Rows
pub mod Blocks
pub mod Uses
pub mod Lending

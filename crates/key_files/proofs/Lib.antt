pub mod Lines
pub mod Digits
pub mod Keys
pub mod Books
pub mod Files
pub mod FaultyLines
pub mod KeyChecks
pub mod Signatures

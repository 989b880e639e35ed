pub mod KeyInfo
pub mod File
pub mod Certificate
pub mod View
pub mod FirstFault
pub mod KeyLines

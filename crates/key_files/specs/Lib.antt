pub mod PublicKey
pub mod KeyFile
pub mod KeyReading
pub mod KeyCheck
pub mod FirstFault
pub mod LineFault
pub mod FaultName
pub mod Shown

pub mod Packet
pub mod Reading
pub mod Stream
pub mod Cutting
pub mod Found
pub mod Queue
pub mod PacketStream
pub mod Connection

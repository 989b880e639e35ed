pub mod Sizes
pub mod Packets
pub mod Streams
pub mod Calls
pub mod Queues
pub mod PacketStreams
pub mod Connections

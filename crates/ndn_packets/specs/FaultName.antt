-- The names of faults, as programs print them.
use Rattle.std.specs.Prelude.{ℕ, List, codes}
use Rattle.ndn_tlv.specs.declared.fault.TlvFault.TheVariants as tlv
use Rattle.ndn_packets.specs.declared.fault.PacketFault.{PacketFault}
use Rattle.ndn_packets.specs.declared.fault.PacketFault.TheVariants as packet
use Rattle.ndn_packets.specs.declared.fault.WriteFault.{WriteFault}
use Rattle.ndn_packets.specs.declared.fault.WriteFault.TheVariants as write

abbrev pub packet_name : PacketFault → List ℕ
packet_name (packet.Tlv tlv.Truncated) = codes "Tlv Truncated"
packet_name (packet.Tlv tlv.NotShortest) = codes "Tlv NotShortest"
packet_name (packet.Tlv tlv.TypeZero) = codes "Tlv TypeZero"
packet_name (packet.Tlv tlv.TypeTooLarge) = codes "Tlv TypeTooLarge"
packet_name (packet.Tlv tlv.BadInteger) = codes "Tlv BadInteger"
packet_name packet.NoName = codes "NoName"
packet_name packet.CriticalUnknown = codes "CriticalUnknown"
packet_name packet.BadField = codes "BadField"
packet_name packet.NoNonce = codes "NoNonce"
packet_name packet.DigestMissing = codes "DigestMissing"
packet_name packet.DigestWrong = codes "DigestWrong"
packet_name packet.DigestWithout = codes "DigestWithout"
packet_name packet.Fragmented = codes "Fragmented"
packet_name packet.LpField = codes "LpField"
packet_name packet.TooLong = codes "TooLong"

abbrev pub write_name : WriteFault → List ℕ
write_name write.BadName = codes "BadName"
write_name write.TooLong = codes "TooLong"
write_name write.Memory = codes "Memory"

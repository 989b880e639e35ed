-- The packets on which rules make a decision.
use Rattle.std.specs.Prelude.{⊤}
use Rattle.ndn_packets.specs.Packet.{PlainFrame, AnInterest, AData, ANack, Idle}

-- the frame is an Interest or a Data
abbrev pub IsDecided : PlainFrame → Type 0
IsDecided (AnInterest whole i) = ⊤
IsDecided (AData whole d) = ⊤
IsDecided (ANack reason whole i) = ⊥
IsDecided Idle = ⊥

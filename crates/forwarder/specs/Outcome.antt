-- The outcome of an event, which the event and its verdict determine. How PIT records, the cache,
-- next hops and routes change depends on the outcome (NFD Developer's Guide, "Forwarding").
use Rattle.std.specs.Prelude.{ℕ, List, Result, Ok, Err}
use Rattle.ndn_packets.specs.FrameReading.{frame_at}
use Rattle.ndn_packets.specs.Packet.{PlainInterest, PlainData, PlainFrame, AnInterest, AData, ANack, Idle}
use Rattle.ndn_packets.specs.declared.fault.PacketFault.{PacketFault}
use Rattle.forwarder.specs.Event.{PlainEvent, Packet, FaceUp, FaceDown, Tick, NewRules}
use Rattle.forwarder.specs.Verdict.{Verdict, Passed, Allowed, DataAllowed, Denied, NoRule, Dropped}

pub data Outcome : Type 0 where
  -- a tick, a face that opens, new rules, or anything dropped or denied; the event changes no
  -- record, cached Data, next hop or route, except that records and routes expire as time advances
  Nothing : Outcome
  -- an Interest for Data, or for a segment of a list, was passed
  InterestPassed : (face : ℕ) (whole : List ℕ) (i : PlainInterest) → Outcome
  -- a command was allowed, and answered with this status
  CommandAllowed : (face : ℕ) (i : PlainInterest) (status : ℕ) → Outcome
  -- a Data was allowed
  DataCame : (whole : List ℕ) (d : PlainData) → Outcome
  -- a Nack that came on this face was passed; the Interest in the Nack had been sent to this face
  NackPassed : (face reason : ℕ) (i : PlainInterest) → Outcome
  -- an open face closed
  FaceClosed : (face : ℕ) → Outcome

abbrev pub passed_packet : ℕ → PlainFrame → Outcome
passed_packet face (AnInterest whole i) = InterestPassed face whole i
passed_packet face (AData whole d) = Nothing
passed_packet face (ANack reason whole i) = NackPassed face reason i
passed_packet face Idle = Nothing

abbrev pub allowed_command : ℕ → ℕ → PlainFrame → Outcome
allowed_command face status (AnInterest whole i) = CommandAllowed face i status
allowed_command face status (AData whole d) = Nothing
allowed_command face status (ANack reason whole i) = Nothing
allowed_command face status Idle = Nothing

abbrev pub allowed_data : PlainFrame → Outcome
allowed_data (AnInterest whole i) = Nothing
allowed_data (AData whole d) = DataCame whole d
allowed_data (ANack reason whole i) = Nothing
allowed_data Idle = Nothing

-- the outcome of a packet from a face, given the verdict on the packet
abbrev pub packet_outcome : ℕ → PlainFrame → Verdict → Outcome
packet_outcome face packet Passed = passed_packet face packet
packet_outcome face packet (Allowed rule status) = allowed_command face status packet
packet_outcome face packet (DataAllowed rule stored) = allowed_data packet
packet_outcome face packet (Denied kind rule reason) = Nothing
packet_outcome face packet (NoRule kind) = Nothing
packet_outcome face packet (Dropped reason) = Nothing

abbrev pub read_outcome : ℕ → Result PlainFrame PacketFault → Verdict → Outcome
read_outcome face (Err fault) verdict = Nothing
read_outcome face (Ok packet) verdict = packet_outcome face packet verdict

abbrev pub closing_outcome : ℕ → Verdict → Outcome
closing_outcome face Passed = FaceClosed face
closing_outcome face (Allowed rule status) = Nothing
closing_outcome face (DataAllowed rule stored) = Nothing
closing_outcome face (Denied kind rule reason) = Nothing
closing_outcome face (NoRule kind) = Nothing
closing_outcome face (Dropped reason) = Nothing

abbrev pub outcome_of : PlainEvent → Verdict → Outcome
outcome_of (Packet face now octets) verdict = read_outcome face (frame_at octets) verdict
outcome_of (FaceUp face scope now) verdict = Nothing
outcome_of (FaceDown face now) verdict = closing_outcome face verdict
outcome_of (Tick now) verdict = Nothing
outcome_of (NewRules rules keys now) verdict = Nothing

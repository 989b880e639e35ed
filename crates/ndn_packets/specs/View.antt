-- Packets in memory as plain data, and what is true of every packet in memory.
use Rattle.std.specs.Prelude.{option_map}
use Rattle.ndn_names.specs.View.{components}
use Rattle.ndn_packets.specs.declared.interest.Interest.{Interest}
use Rattle.ndn_packets.specs.declared.data.Data.{Data}
use Rattle.ndn_packets.specs.declared.frame.Frame.{Frame}
use Rattle.ndn_packets.specs.declared.frame.Frame.TheVariants as frames
use Rattle.ndn_packets.specs.declared.frame.Framed.{Framed}
use Rattle.ndn_packets.specs.Packet.{PlainInterest, PlainData, PlainFrame, PlainFramed, AnInterest, AData, ANack, Idle, plain_signature}
use Rattle.ndn_packets.specs.Grammar.{IsInterest, IsData}

abbrev pub plain_interest : Interest → PlainInterest
plain_interest i = record {
  name = components i.name;
  can_be_prefix = i.can_be_prefix;
  must_be_fresh = i.must_be_fresh;
  nonce = i.nonce;
  lifetime = i.lifetime;
  hop_limit = i.hop_limit;
  parameters = option_map (λ p. p.now) i.parameters;
  signature = option_map plain_signature i.signature;
}

abbrev pub plain_data : Data → PlainData
plain_data d = record {
  name = components d.name;
  freshness = d.freshness;
  content = option_map (λ c. c.now) d.content;
  signature = plain_signature d.signature;
}

abbrev pub plain_frame : Frame → PlainFrame
plain_frame (frames.Interest i) = AnInterest i.whole.now (plain_interest i)
plain_frame (frames.Data d) = AData d.whole.now (plain_data d)
plain_frame (frames.Nack reason i) = ANack reason i.whole.now (plain_interest i)
plain_frame frames.Idle = Idle

abbrev pub plain_framed : Framed → PlainFramed
plain_framed f = record { token = option_map (λ t. t.now) f.token; frame = plain_frame f.frame }

-- `IsReadInterest` states that the received octets of an Interest in memory are this Interest in
-- the grammar. `IsReadData` states that the received octets of a Data in memory are this Data in
-- the grammar. Every Interest in memory satisfies `IsReadInterest`, and every Data in memory
-- satisfies `IsReadData`, because packets in memory are created only by reading.
abbrev pub IsReadInterest : Interest → Type 0
IsReadInterest i = IsInterest i.whole.now (plain_interest i)

abbrev pub IsReadData : Data → Type 0
IsReadData d = IsData d.whole.now (plain_data d)

-- A Nack that is written is in the grammar.
use Rattle.std.proofs.Common.{ℕ, ◌^◌, ◌<◌, List, None, Some}
use Rattle.ndn_packets.specs.Packet.{PlainInterest, ANack}
use Rattle.ndn_packets.specs.Grammar.{IsInterest}
use Rattle.ndn_packets.specs.Link.{IsFrame}
use Rattle.ndn_packets.specs.Writing.{nack_text}
use Rattle.ndn_packets.proofs.WrittenLinks.{interest_written}

pub nack_written : (reason : ℕ) (interest : List ℕ) (i : PlainInterest) → IsInterest interest i → reason < 2 ^ 64 → IsFrame (nack_text reason interest) (ANack reason interest i)
nack_written reason interest i is fits = (None, interest_written None (Some reason) interest i tt tt fits is)

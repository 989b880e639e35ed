-- Which Interests become pending (NFD Developer's Guide, "Incoming Interest Pipeline"). An Interest
-- becomes pending if the Interest is passed, and neither a Data nor a Nack is sent back to its
-- face.
use Rattle.std.specs.Prelude.{◌≡◌, ◌⊎◌, ℕ, List, [], ◌∷◌, false, Ok}
use Rattle.ndn_packets.specs.FrameReading.{frame_at}
use Rattle.ndn_packets.specs.Key.{PlainKey, key_of}
use Rattle.ndn_packets.specs.Packet.{PlainInterest, AnInterest}
use Rattle.ndn_packets.specs.declared.types.TheConstants.{NO_ROUTE}
use Rattle.pit_fib.specs.FaceSet.{has_face}
use Rattle.pit_fib.specs.Records.{InRecord}
use Rattle.forwarder.specs.Event.{PlainEvent, Packet, Send, Token, nacked_back, sent_back, to_each, token_in}
use Rattle.forwarder.specs.Verdict.{Answer, Passed}
use Rattle.forwarder.specs.Causes.{in_record_for, is_answered, is_nacked}
use Rattle.forwarder.specs.NextHops.{sent_on}
use Rattle.forwarder.specs.Replies.{Seen}
use Rattle.forwarder.specs.DataSends.{IsAtHand}

-- the event brings this Interest on this face, and the Interest is passed
pub record IsPassed (event : PlainEvent) (answer : Answer) (face : ℕ) (whole : List ℕ)
    (interest : PlainInterest) : Type 0 where
  pub now : ℕ
  pub octets : List ℕ
  pub brings : event ≡ Packet face now octets
  pub read : frame_at octets ≡ Ok (AnInterest whole interest)
  pub passed : answer.verdict ≡ Passed

-- The event brings an Interest of this key on the face `face`. The Interest is passed, nothing is
-- sent back to `face`, and no Nack is sent. So the Interest becomes pending on `face`, with the
-- in-record `in_record`, which has the Interest's token, if there is one.
pub record IsKept (now : ℕ) (event : PlainEvent) (answer : Answer) (key : PlainKey) (face : ℕ)
    (in_record : InRecord) : Type 0 where
  pub whole : List ℕ
  pub interest : PlainInterest
  pub is_passed : IsPassed event answer face whole interest
  pub unanswered : is_answered face answer.sends ≡ false
  pub not_nacked : is_nacked answer.sends ≡ false
  pub is_key : key ≡ key_of interest
  pub is_record : in_record ≡ in_record_for now (token_in event) whole interest

-- The Interest is forwarded only to faces other than `face`, from which it came. The Interest is
-- sent without its token, and unchanged except for its HopLimit. The list of faces may be empty,
-- since the strategy may wait for answers from faces to which an Interest of the same key was sent
-- shortly before.
abbrev pub IsSentOn : ℕ → List ℕ → PlainInterest → List Send → Type 0
IsSentOn face whole i sends =
    (faces : List ℕ) × (has_face face faces ≡ false)
    × (sends ≡ to_each faces (sent_on whole i.hop_limit))

-- One packet is sent back to the Interest's face, and nothing is sent to other faces. The packet is
-- sent with the Interest's token, if there is one. The packet is a Nack with the reason NoRoute, or
-- a Data from the cache, the repository or the node.
abbrev pub IsSentBack : Seen → ℕ → Token → List ℕ → PlainInterest → List Send → Type 0
IsSentBack seen face token whole i sends =
    (sends ≡ nacked_back face token NO_ROUTE whole ∷ [])
    ⊎ ((packet : List ℕ) × (sends ≡ sent_back face token packet ∷ [])
    × IsAtHand seen face whole i packet)

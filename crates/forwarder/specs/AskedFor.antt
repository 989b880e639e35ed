-- Why a Data is sent to a face: an Interest came from the face, and the Data answers this Interest
-- or is the node's own answer to this Interest.
use Rattle.std.specs.Prelude.{◌≡◌, ◌⊎◌, ℕ, List, Option, Some, IsTrue, Ok, max}
use Rattle.std.specs.FinMap as map
use Rattle.sha2.specs.Sha256.{sha256}
use Rattle.ndn_tlv.specs.Element.{Field}
use Rattle.ndn_packets.specs.Answers.{AnswersByName, answers}
use Rattle.ndn_packets.specs.FrameReading.{frame_at}
use Rattle.ndn_packets.specs.Key.{PlainKey}
use Rattle.ndn_packets.specs.Packet.{PlainInterest, PlainData, PlainFrame, AnInterest, AData}
use Rattle.ndn_packets.specs.Writing.{signed_data}
use Rattle.ndn_packets.specs.declared.signature.Sign.TheVariants.{Digest}
use Rattle.pit_fib.specs.Cause.{Expires, records_after}
use Rattle.pit_fib.specs.Records.{InRecord}
use Rattle.forwarder.specs.Event.{PlainEvent, Packet, Send, moment, sent_back, token_in}
use Rattle.forwarder.specs.Policy.{Policy, at_moment}
use Rattle.forwarder.specs.Allowed.{AllowedIn, Allows}
use Rattle.forwarder.specs.Runs.{Run, now_of, records_of}
use Rattle.forwarder.specs.DataSends.{IsReplyToCommand, IsSegmentAskedFor}

-- the Data `d` with the octets `whole` answers an Interest from the face; this Interest is pending
-- when time has advanced to `now` after the run
pub record IsPendingFor (past : Run) (now face : ℕ) (whole : List ℕ) (d : PlainData) : Type 0 where
  pub key : PlainKey
  pub in_record : InRecord
  pub waits : map.get (records_after (Expires now) key (records_of past key)).in_records face
      ≡ Some in_record
  pub answered : IsTrue (answers d.name (sha256 whole) key.name key.can_be_prefix)

-- the event brings this packet on this face, whether or not the face is open
pub record BringsPacketOn (event : PlainEvent) (face : ℕ) (packet : PlainFrame) : Type 0 where
  pub now : ℕ
  pub octets : List ℕ
  pub brings : event ≡ Packet face now octets
  pub read : frame_at octets ≡ Ok packet

-- the octets are a Data of the node's own, signed with DigestSha256, and the name that is written
-- in them answers the Interest `i`: it is the Interest's name or, with CanBePrefix, begins with it
pub record AnswersByItsName (i : PlainInterest) (octets : List ℕ) : Type 0 where
  pub name : List Field
  pub meta : Option (List ℕ)
  pub content : List ℕ
  pub written : octets ≡ signed_data Digest name meta (Some content)
  pub answers : AnswersByName name i.name i.can_be_prefix

-- `octets` are the node's own answer to the Interest `i`: the reply to a command, or the requested
-- segment of a list; its name answers `i`; `asked` are the octets of the Interest
abbrev pub IsOwnAnswer : Policy → ℕ → List ℕ → PlainInterest → List ℕ → Type 0
IsOwnAnswer p face asked i octets =
    (IsReplyToCommand p face asked i octets ⊎ IsSegmentAskedFor p face i octets)
    × AnswersByItsName i octets

-- the Data `d` with the octets `whole` answers the Interest `i`; it came in an event of the run
-- `past` and was allowed at that event, or it is the node's own answer to `i`
abbrev pub AnswersNow : Policy → Run → Policy → ℕ → List ℕ → PlainInterest → List ℕ → PlainData
    → Type 0
AnswersNow first past p face asked i whole d =
    IsTrue (answers d.name (sha256 whole) i.name i.can_be_prefix)
    × (AllowedIn first past (AData whole d) ⊎ IsOwnAnswer p face asked i whole)

-- The face that the Data is sent to asked for it; `was` is the policy after the run `past`. There
-- are two cases. In the first case, the event brings the Data, the Data is allowed, and the Data
-- answers an Interest that is pending on the face. In the second case, the event brings an Interest
-- on the face, and the Data answers that Interest. It is sent back with the Interest's token, if
-- there is one. It came in an event of the run and was allowed at that event, or it is the node's
-- own answer to that Interest.
abbrev pub WasAskedFor : Policy → Run → Policy → PlainEvent → Send → List ℕ → PlainData → Type 0
WasAskedFor first past was event sent whole d =
    (Allows was event (AData whole d)
    × IsPendingFor past (max (now_of past) (moment event)) sent.0 whole d)
    ⊎ ((asked : List ℕ) × (i : PlainInterest) × BringsPacketOn event sent.0 (AnInterest asked i)
    × AnswersNow first past (at_moment was (moment event)) sent.0 asked i whole d
    × (sent ≡ sent_back sent.0 (token_in event) whole))

-- the event brings an Interest on a face, and `sent` sends the node's own answer to that Interest
-- back to that face, with the Interest's token, if there is one
abbrev pub AnswersItself : Policy → PlainEvent → Send → Type 0
AnswersItself was event sent =
    (asked packet : List ℕ) × (i : PlainInterest)
    × BringsPacketOn event sent.0 (AnInterest asked i)
    × IsOwnAnswer (at_moment was (moment event)) sent.0 asked i packet
    × (sent ≡ sent_back sent.0 (token_in event) packet)

-- Whose a PIT token is: a token goes back only to the face that brought it (NDNLPv2, "PIT Token").
use Rattle.std.specs.Prelude.{◌≡◌, ◌⊎◌, ℕ, List, Some, Contains, max}
use Rattle.std.specs.FinMap as map
use Rattle.ndn_packets.specs.Key.{PlainKey, key_of}
use Rattle.ndn_packets.specs.Packet.{PlainInterest, AnInterest}
use Rattle.pit_fib.specs.Cause.{Expires, records_after}
use Rattle.pit_fib.specs.Records.{InRecord}
use Rattle.forwarder.specs.AskedFor.{BringsPacketOn}
use Rattle.forwarder.specs.Event.{PlainEvent, moment, token_in}
use Rattle.forwarder.specs.Runs.{Run, events_back, now_of, records_of}

-- the event brings an Interest of this key on this face, with this token
pub record BringsToken (event : PlainEvent) (key : PlainKey) (face : ℕ)
    (token : List ℕ) : Type 0 where
  pub whole : List ℕ
  pub interest : PlainInterest
  pub brings : BringsPacketOn event face (AnInterest whole interest)
  pub is_key : key ≡ key_of interest
  pub is_token : token_in event ≡ Some token

-- an Interest that came on this face with this token in an event of the run `past` is pending on
-- the face when time has advanced to `now` after the run
pub record IsPendingToken (past : Run) (now face : ℕ) (token : List ℕ) : Type 0 where
  pub key : PlainKey
  pub in_record : InRecord
  pub waits : map.get (records_after (Expires now) key (records_of past key)).in_records face
      ≡ Some in_record
  pub is_token : in_record.token ≡ Some token
  pub event : PlainEvent
  pub came : Contains (events_back past) event
  pub brings : BringsToken event key face token

-- the token is the face's own: the event brings it on the face with an Interest, or an Interest
-- with which an earlier event brought it on the face is still pending
abbrev pub IsOwnToken : Run → PlainEvent → ℕ → List ℕ → Type 0
IsOwnToken past event face token =
    ((key : PlainKey) × BringsToken event key face token)
    ⊎ IsPendingToken past (max (now_of past) (moment event)) face token

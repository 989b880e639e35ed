-- Runs of events and answers, and what a run determines. The definitions in this file do not use
-- the PIT or the cache of a node. The one exception is `Stands`, which compares the policy, the PIT
-- and the cache of a node with a run.
use Rattle.std.specs.Prelude.{◌≡◌, ◌⊎◌, ℕ, Bool, true, false, List, [], ◌∷◌, ◌++◌, Option, None, Some, All, Result, Ok, Err, max, nat_le, ⊤}
use Rattle.std.specs.FinMap as map
use Rattle.key_files.specs.KeyFile.{AreApart, NamedKey}
use Rattle.info_rules.specs.Rule.{PlainRule}
use Rattle.ndn_packets.specs.FrameReading.{frame_at}
use Rattle.ndn_packets.specs.Key.{PlainKey}
use Rattle.ndn_packets.specs.Packet.{PlainFrame, AnInterest, AData, ANack, Idle}
use Rattle.ndn_packets.specs.declared.fault.PacketFault.{PacketFault}
use Rattle.pit_fib.specs.declared.pit.TheConstants.{MAX_PENDING}
use Rattle.pit_fib.specs.Cause.{Cause, Expires, records_after}
use Rattle.pit_fib.specs.Past.{records_after_all}
use Rattle.pit_fib.specs.Records.{Records, Pending, HoldsTheLiving, records_at}
use Rattle.content_store.specs.Store.{CachedData, CanServe}
use Rattle.forwarder.specs.Event.{PlainEvent, Packet, FaceUp, FaceDown, Tick, NewRules, moment}
use Rattle.forwarder.specs.Verdict.{Verdict, Passed, Allowed, DataAllowed, Denied, NoRule, Dropped, Answer, passed}
use Rattle.forwarder.specs.Policy.{Policy, at_moment}
use Rattle.forwarder.specs.Request.{Request, Refused, ForList, ForTables, ForRepository, ForData, request_of}
use Rattle.forwarder.specs.Effects.{IsAfter}
use Rattle.forwarder.specs.Outcome.{outcome_of}
use Rattle.forwarder.specs.Causes.{causes_of, before_earlier}
use Rattle.forwarder.specs.Cache.{Inserts, IsAwaited, TakesAway, cache_use}
use Rattle.forwarder.specs.Replies.{Seen, Replies}
use Rattle.forwarder.specs.Node.{NodeState}

-- A run is empty, or consists of a shorter run, a further event and this event's answer. An event
-- whose step ran out of memory is not part of a run.
pub data Run : Type 0 where
  Start : Run
  Then : (before : Run) (event : PlainEvent) (answer : Answer) → Run

-- the greatest moment of the run's events, or 0 if there are none
abbrev pub now_of : Run → ℕ
now_of Start = 0
now_of (Then before event answer) = max (now_of before) (moment event)

-- `p` is the policy after a run that starts from the policy `first`. The definition does not use
-- the run's answers.
abbrev pub IsPolicyOf : Policy → Run → Policy → Type 0
IsPolicyOf first Start p = p ≡ first
IsPolicyOf first (Then before event answer) p =
    (was : Policy) × IsPolicyOf first before was × IsAfter was event p

-- if the event brings rules and keys, no two of these keys have the same name
abbrev pub BringsKeysApart : PlainEvent → Type 0
BringsKeysApart (Packet face t octets) = ⊤
BringsKeysApart (FaceUp face scope t) = ⊤
BringsKeysApart (FaceDown face t) = ⊤
BringsKeysApart (Tick t) = ⊤
BringsKeysApart (NewRules rules keys t) = AreApart keys

-- No key book in the run has two keys of the same name: neither the key book of the policy `first`
-- nor a key book that an event brought.
abbrev pub KeysAreApart : Policy → Run → Type 0
KeysAreApart first Start = AreApart first.keys
KeysAreApart first (Then before event answer) = KeysAreApart first before × BringsKeysApart event

-- the event brings no rules and keys
abbrev pub BringsNoRules : PlainEvent → Type 0
BringsNoRules (Packet face t octets) = ⊤
BringsNoRules (FaceUp face scope t) = ⊤
BringsNoRules (FaceDown face t) = ⊤
BringsNoRules (Tick t) = ⊤
BringsNoRules (NewRules rules keys t) = ⊥

-- the events of a run, with the latest event first
abbrev pub events_back : Run → List PlainEvent
events_back Start = []
events_back (Then before event answer) = event ∷ events_back before

-- no event of the run brings rules and keys
abbrev pub HasNoNewRules : Run → Type 0
HasNoNewRules past = All BringsNoRules (events_back past)

-- `rules` and `keys` come from the last event of the run that brings rules and keys
pub record AreLastRules (past : Run) (rules : List PlainRule) (keys : List NamedKey) : Type 0 where
  pub later : List PlainEvent
  pub now : ℕ
  pub earlier : List PlainEvent
  pub are_events : events_back past ≡ later ++ (NewRules rules keys now ∷ earlier)
  pub are_last : All BringsNoRules later

-- ---- pending Interests (NFD Developer's Guide, "Pending Interest Table")

-- All causes that change records in a run, with the latest cause first. Each event first gives the
-- cause `Expires` with the greatest moment so far, and then the causes in `causes_of`.
abbrev pub past_causes : Run → List Cause
past_causes Start = []
past_causes (Then before event answer) =
    let now = max (now_of before) (moment event) in
    before_earlier (causes_of now event answer) (Expires now ∷ past_causes before)

-- the records of a key after all causes of the run
abbrev pub records_of : Run → PlainKey → Records
records_of past key = records_after_all (past_causes past) key

-- `waiting` has the keys that have an in-record when time has advanced to `now` after the run, each
-- key with its records
pub record IsWaiting (past : Run) (now : ℕ) (waiting : Pending) : Type 0 where
  pub living : HoldsTheLiving waiting
  pub records : (key : PlainKey)
      → records_at waiting key ≡ records_after (Expires now) key (records_of past key)

-- ---- what the cache may hold (NFD Developer's Guide, "Content Store")

-- The Data `c` came in some event of the run and was allowed, and some face waited for the Data. No
-- erase without Count has removed the Data since that event. Even so, the cache may have dropped
-- the Data.
abbrev pub MayHold : Run → CachedData → Type 0
MayHold Start c = ⊥
MayHold (Then before event answer) c =
    let now = max (now_of before) (moment event) in
    let used = cache_use now (outcome_of event answer.verdict) in
    ((used ≡ Inserts c)
    × ((waiting : Pending) × IsWaiting before now waiting × IsAwaited waiting c))
    ⊎ (MayHold before c × ¬ TakesAway used c)

-- what the cache may give for an Interest of this key: nothing, or a Data that the cache may hold
-- and that can serve the Interest
abbrev pub MayCache : Run → ℕ → PlainKey → Option (List ℕ) → Type 0
MayCache past now key None = ⊤
MayCache past now key (Some octets) =
    (c : CachedData) × MayHold past c × CanServe key now c × (octets ≡ c.octets)

-- ---- runs

abbrev pub seen_after : Run → Policy → Pending → Seen
seen_after past p waiting = record {
  policy = p;
  records = records_at waiting;
  is_full = nat_le MAX_PENDING (map.len waiting);
  MayGive = MayCache past p.now;
}

-- The answer to the event is valid after the run `past`. The validity depends on the policy, on the
-- Data that the cache may hold, and on the records of those keys that have an in-record at the
-- event's moment.
pub record MayReply (first : Policy) (past : Run) (event : PlainEvent)
    (answer : Answer) : Type 0 where
  pub was : Policy
  pub is_policy : IsPolicyOf first past was
  pub waiting : Pending
  pub is_waiting : IsWaiting past (max (now_of past) (moment event)) waiting
  pub replies : Replies (seen_after past (at_moment was (moment event)) waiting) event answer

abbrev pub IsRun : Policy → Run → Type 0
IsRun first Start = ⊤
IsRun first (Then before event answer) = IsRun first before × MayReply first before event answer

-- the node has the policy and the records that the run gives, and its cached Data are among those
-- that the cache may hold after the run
pub record Stands (first : Policy) (past : Run) (node : NodeState) : Type 0 where
  pub policy : IsPolicyOf first past node.policy
  pub pending : (key : PlainKey) → records_at node.pending key ≡ records_of past key
  pub cache : All (MayHold past) node.cache.cached

-- ---- runs with the same events

-- the events of the two runs are the same, while their answers may differ
abbrev pub HaveOneHistory : Run → Run → Type 0
HaveOneHistory Start Start = ⊤
HaveOneHistory Start (Then before event answer) = ⊥
HaveOneHistory (Then before event answer) Start = ⊥
HaveOneHistory (Then before event answer) (Then other another reply) =
    (event ≡ another) × HaveOneHistory before other

-- true if an Interest is dropped because of its HopLimit or scope, is a command, or asks for a
-- segment of a list, and false otherwise
abbrev pub is_request : Request → Bool
is_request (Refused reason) = true
is_request (ForList asked) = true
is_request ForTables = true
is_request ForRepository = true
is_request ForData = false

abbrev pub IsRequestPacket : Policy → ℕ → Result PlainFrame PacketFault → Type 0
IsRequestPacket p face (Err fault) = ⊥
IsRequestPacket p face (Ok (AnInterest whole i)) = is_request (request_of p face i) ≡ true
IsRequestPacket p face (Ok (AData whole d)) = ⊥
IsRequestPacket p face (Ok (ANack reason whole i)) = ⊥
IsRequestPacket p face (Ok Idle) = ⊥

abbrev pub BringsRequest : Policy → PlainEvent → Type 0
BringsRequest p (Packet face t octets) = IsRequestPacket p face (frame_at octets)
BringsRequest p (FaceUp face scope t) = ⊥
BringsRequest p (FaceDown face t) = ⊥
BringsRequest p (Tick t) = ⊥
BringsRequest p (NewRules rules keys t) = ⊥

-- octets were read as a Data, whether or not it is allowed
abbrev pub IsDataPacket : Result PlainFrame PacketFault → Type 0
IsDataPacket (Err fault) = ⊥
IsDataPacket (Ok (AnInterest whole i)) = ⊥
IsDataPacket (Ok (AData whole d)) = ⊤
IsDataPacket (Ok (ANack reason whole i)) = ⊥
IsDataPacket (Ok Idle) = ⊥

abbrev pub BringsData : PlainEvent → Type 0
BringsData (Packet face t octets) = IsDataPacket (frame_at octets)
BringsData (FaceUp face scope t) = ⊥
BringsData (FaceDown face t) = ⊥
BringsData (Tick t) = ⊥
BringsData (NewRules rules keys t) = ⊥

-- ---- denied events

abbrev pub is_denied : Verdict → Bool
is_denied Passed = false
is_denied (Allowed rule status) = false
is_denied (DataAllowed rule stored) = false
is_denied (Denied kind rule reason) = true
is_denied (NoRule kind) = true
is_denied (Dropped reason) = false

-- the second run is the first run, except that denied events may be replaced by ticks at the
-- moments of these events; the answer to such a tick has the verdict Passed and no sends
abbrev pub HasTicksForDenied : Run → Run → Type 0
HasTicksForDenied Start Start = ⊤
HasTicksForDenied Start (Then other another reply) = ⊥
HasTicksForDenied (Then before event answer) Start = ⊥
HasTicksForDenied (Then before event answer) (Then other another reply) =
    HasTicksForDenied before other × (((another ≡ event) × (reply ≡ answer))
    ⊎ ((is_denied answer.verdict ≡ true) × (another ≡ Tick (moment event)) × (reply ≡ passed [])))

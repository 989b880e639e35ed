-- The journal of a node: those events of a run that may change more of the policy than its time.
-- The first policy of the run and the events of the journal determine the policy at each time from
-- the latest time of the run on.
use Rattle.std.specs.Prelude.{◌≡◌, ◌⊎◌, ◌≤◌, ℕ, Bool, true, false, List, [], ◌∷◌, ◌++◌, Option, None, Some, max}
use Rattle.sha2.specs.Sha256.{sha256}
use Rattle.ndn_packets.specs.Packet.{PlainFrame, AnInterest, AData, ANack, Idle}
use Rattle.info_rules.specs.declared.decision.Decision.{Decision}
use Rattle.info_rules.specs.declared.decision.Decision.TheVariants.{Allowed, Denied, NoRule}
use Rattle.repo_core.specs.Wants.{is_wanted}
use Rattle.forwarder.specs.Event.{PlainEvent, Packet, FaceUp, FaceDown, Tick, NewRules, moment}
use Rattle.forwarder.specs.OpenFaces.{is_open}
use Rattle.forwarder.specs.Policy.{Policy, at_moment}
use Rattle.forwarder.specs.Deciding.{IsDecidedAs}
use Rattle.forwarder.specs.Effects.{can_open, decided_packet}
use Rattle.forwarder.specs.Runs.{Run, Start, Then, IsPolicyOf}

-- ---- the journalled events

-- Whether an allowed packet is journalled. An allowed Interest is a command. Every allowed command
-- is journalled, whatever the status in its reply. A Data is journalled if the repository wants the
-- Data. A Nack and a link packet without a packet (`Idle`) are not journalled.
abbrev pub is_journalled_packet : Policy → PlainFrame → Bool
is_journalled_packet p (AnInterest whole i) = true
is_journalled_packet p (AData whole d) = is_wanted d.name (sha256 whole) p.held.wants
is_journalled_packet p (ANack reason whole i) = false
is_journalled_packet p Idle = false

-- Whether a packet is journalled, given the decision on the packet. A packet that is not allowed
-- is not journalled.
abbrev pub is_journalled_as : Policy → PlainFrame → Decision → Bool
is_journalled_as p packet (Allowed rule) = is_journalled_packet p packet
is_journalled_as p packet (Denied rule reason) = false
is_journalled_as p packet NoRule = false

-- Whether an event is journalled, if the event brings no packet that the rules decide. Such an
-- event is journalled exactly if it opens a face that can open, closes an open face, or brings new
-- rules.
abbrev pub is_journalled_undecided : Policy → PlainEvent → Bool
is_journalled_undecided p (Packet face now octets) = false
is_journalled_undecided p (FaceUp face scope now) = can_open p face
is_journalled_undecided p (FaceDown face now) = is_open face p.faces
is_journalled_undecided p (Tick now) = false
is_journalled_undecided p (NewRules rules keys now) = true

-- `chosen` tells whether the event is journalled. `p` is the policy at the time of the event.
-- `Some packet`: the event brings `packet`, which the rules decide. `None`: the event brings no
-- packet that the rules decide.
abbrev pub IsChosen : Policy → PlainEvent → Bool → Option PlainFrame → Type 0
IsChosen p event chosen None = chosen ≡ is_journalled_undecided p event
IsChosen p event chosen (Some packet) =
    (decision : Decision) × IsDecidedAs p packet decision
    × (chosen ≡ is_journalled_as p packet decision)

-- `chosen` tells whether the event is journalled, where `old` is the policy before the event. If
-- the keys of `old` have different names, each packet has only one decision, so `old` and the event
-- determine `chosen`.
abbrev pub IsJournalled : Policy → PlainEvent → Bool → Type 0
IsJournalled old event chosen =
    let p = at_moment old (moment event) in
    IsChosen p event chosen (decided_packet p event)

-- ---- the journal of a run

-- the event with its time replaced by `now`
abbrev pub with_moment : ℕ → PlainEvent → PlainEvent
with_moment now (Packet face t octets) = Packet face now octets
with_moment now (FaceUp face scope t) = FaceUp face scope now
with_moment now (FaceDown face t) = FaceDown face now
with_moment now (Tick t) = Tick now
with_moment now (NewRules rules keys t) = NewRules rules keys now

-- the journal after an event: if the event is journalled (`true`), the event is appended
abbrev pub with_event : Bool → PlainEvent → List PlainEvent → List PlainEvent
with_event true event journal = journal ++ (event ∷ [])
with_event false event journal = journal

-- The journal after an event, where `was` is the policy before the event. A journalled event is
-- stored with the greater of two times: the time of `was` and the time of the event. So the times
-- in a journal never decrease, even if a clock is set back.
abbrev pub IsJournalAfter : Policy → PlainEvent → List PlainEvent → List PlainEvent → Type 0
IsJournalAfter was event old new =
    (chosen : Bool) × IsJournalled was event chosen
    × (new ≡ with_event chosen (with_moment (max was.now (moment event)) event) old)

-- The journal of a run from the policy `first`. The journal does not depend on the answers in the
-- run.
abbrev pub IsJournalOf : Policy → Run → List PlainEvent → Type 0
IsJournalOf first Start journal = journal ≡ []
IsJournalOf first (Then before event answer) journal =
    (was : Policy) × (earlier : List PlainEvent) × IsPolicyOf first before was
    × IsJournalOf first before earlier × IsJournalAfter was event earlier journal

-- ---- the restored policy

-- the events of a run in order
abbrev pub events_of : Run → List PlainEvent
events_of Start = []
events_of (Then before event answer) = events_of before ++ (event ∷ [])

-- From the time `now` on, the policies `p` and `q` are the same. Before `now`, `p` and `q` may
-- differ in their time, in the wants (pending inserts) that expire by `now`, in the routes that
-- expire by `now`, and in the version of the lists of routes and strategies. This version increases
-- when a route expires.
abbrev pub AreOneFrom : ℕ → Policy → Policy → Type 0
AreOneFrom now p q = (m : ℕ) → now ≤ m → at_moment p m ≡ at_moment q m

-- the first run is a prefix of the second run, or equal to the second run
abbrev pub IsBeginningOf : Run → Run → Type 0
IsBeginningOf part Start = part ≡ Start
IsBeginningOf part (Then before event answer) =
    (part ≡ Then before event answer) ⊎ IsBeginningOf part before

-- The events `left` are the journal of `part`, a prefix of the run `past`. If `left` begins with
-- the whole journal of some prefix of `past`, then that prefix of `past` is also a prefix of
-- `part`. `policy` is the policy after `part`. Replaying `left` from the policy `first` leads to a
-- policy that is the same as `policy` from the time of `policy` on.
pub record KeepsBeginning (first : Policy) (past : Run) (left : List PlainEvent) : Type 0 where
  pub part : Run
  pub policy : Policy
  pub begins : IsBeginningOf part past
  pub is_policy : IsPolicyOf first part policy
  pub is_journal : IsJournalOf first part left
  pub has_whole : (done : Run) (journal more : List PlainEvent) → IsBeginningOf done past
      → IsJournalOf first done journal → left ≡ journal ++ more → IsBeginningOf done part
  pub leads_there : (again : Run) (p : Policy) → events_of again ≡ left
      → IsPolicyOf first again p → AreOneFrom policy.now p policy

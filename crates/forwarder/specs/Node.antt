-- A node, and one step of it (NFD Developer's Guide, "Forwarding").
use Rattle.std.specs.Prelude.{◌≡◌, ◌⊎◌, ℕ, List, true, false, Result, Ok, Err, nat_le, ⊤}
use Rattle.std.specs.FinMap as map
use Rattle.ndn_packets.specs.FrameReading.{frame_at}
use Rattle.ndn_packets.specs.Key.{PlainKey}
use Rattle.ndn_packets.specs.Packet.{PlainFrame, AnInterest, AData, ANack, Idle}
use Rattle.ndn_packets.specs.declared.fault.PacketFault.{PacketFault}
use Rattle.info_rules.specs.Decides.{MayRefuse}
use Rattle.info_rules.specs.declared.decision.Decision.TheVariants.{Allowed}
use Rattle.info_rules.specs.declared.rules.RuleNo.{RuleNo}
use Rattle.pit_fib.specs.declared.pit.TheConstants.{MAX_PENDING}
use Rattle.pit_fib.specs.Cause.{Cause, Expires, Follows}
use Rattle.pit_fib.specs.Records.{Pending, HoldsTheLiving, records_at}
use Rattle.content_store.specs.Store.{GivesData, StoreState}
use Rattle.forwarder.specs.Event.{PlainEvent, Packet, FaceUp, FaceDown, Tick, NewRules, moment}
use Rattle.forwarder.specs.OpenFaces.{is_open}
use Rattle.forwarder.specs.Policy.{Policy, at_moment}
use Rattle.forwarder.specs.Request.{Refused, is_out_of_scope, request_of}
use Rattle.forwarder.specs.Deciding.{IsDecidedAs}
use Rattle.forwarder.specs.Replies.{Seen, Replies}
use Rattle.forwarder.specs.Effects.{IsAfter}
use Rattle.forwarder.specs.Outcome.{outcome_of}
use Rattle.forwarder.specs.Causes.{causes_of, after_causes}
use Rattle.forwarder.specs.Cache.{CacheAfter, cache_use}
use Rattle.forwarder.specs.Verdict.{Answer, DropReason}

pub record NodeState : Type 0 where
  pub policy : Policy
  pub pending : Pending
  pub cache : StoreState

-- ---- a step

-- for each key, applying the causes to the old records gives the new records
abbrev pub FollowAll : List Cause → Pending → Pending → Type 0
FollowAll causes old new =
    (key : PlainKey) → records_at new key ≡ after_causes causes key (records_at old key)

-- what an answer to an event may depend on, given the node's policy, PIT and cache after time has
-- advanced to the event's moment
abbrev pub seen_in : Policy → Pending → StoreState → Seen
seen_in p waiting cache = record {
  policy = p;
  records = records_at waiting;
  is_full = nat_le MAX_PENDING (map.len waiting);
  MayGive = λ key given. GivesData key p.now cache.cached given;
}

-- One step, from received octets to sent octets: time passes, then the event is answered and has
-- its effect. Each of the fields `replies` and `policy` refers to a decision on the event's packet.
-- The two decisions are the same if no two keys of the old policy have the same name. Each of the
-- fields `replies` and `cache` refers to what the cache gives for an Interest. Both refer to the
-- same Data if the old cache satisfies `IsStore`.
pub record IsStep (old : NodeState) (event : PlainEvent) (answer : Answer)
    (new : NodeState) : Type 0 where
  -- the Interests that are pending once time has advanced to the moment of the event
  pub waiting : Pending
  pub living : HoldsTheLiving waiting
  pub expiry : Follows (Expires (at_moment old.policy (moment event)).now) old.pending waiting
  pub replies : Replies (seen_in (at_moment old.policy (moment event)) waiting old.cache)
      event answer
  pub policy : IsAfter old.policy event new.policy
  pub pending : FollowAll (causes_of (at_moment old.policy (moment event)).now event answer)
      waiting new.pending
  pub alive : HoldsTheLiving new.pending
  pub cache : CacheAfter (at_moment old.policy (moment event)).now waiting
      (cache_use (at_moment old.policy (moment event)).now (outcome_of event answer.verdict))
      old.cache new.cache

-- ---- events that need no memory

-- The packets that need no memory. No memory is needed for malformed octets, for a link packet
-- without a packet, for a packet out of scope, or for an Interest with the HopLimit 0. A Data that
-- is not allowed needs no memory either, if no checker of the first rule that applies to the Data
-- expands the templates of a hyper-relation (`MayRefuse`).
abbrev pub NeedsNoMemory : Policy → ℕ → Result PlainFrame PacketFault → Type 0
NeedsNoMemory p face (Err fault) = ⊤
NeedsNoMemory p face (Ok (AnInterest whole i)) =
    (reason : DropReason) × (request_of p face i ≡ Refused reason)
NeedsNoMemory p face (Ok (AData whole d)) =
    (is_out_of_scope p face d.name ≡ true)
    ⊎ (((rule : RuleNo) → ¬ IsDecidedAs p (AData whole d) (Allowed rule))
    × (¬ MayRefuse p.rules (AData whole d)))
NeedsNoMemory p face (Ok (ANack reason whole i)) = is_out_of_scope p face i.name ≡ true
NeedsNoMemory p face (Ok Idle) = ⊤

-- The events that need no memory if `old` is the node before the event. A packet needs no memory if
-- its face is not open, or if `NeedsNoMemory` is true of the packet. An event that brings no packet
-- needs no memory.
abbrev pub AsksNoMemory : NodeState → PlainEvent → Type 0
AsksNoMemory old (Packet face now octets) =
    (is_open face old.policy.faces ≡ false) ⊎ NeedsNoMemory old.policy face (frame_at octets)
AsksNoMemory old (FaceUp face scope now) = ⊤
AsksNoMemory old (FaceDown face now) = ⊤
AsksNoMemory old (Tick now) = ⊤
AsksNoMemory old (NewRules rules keys now) = ⊤

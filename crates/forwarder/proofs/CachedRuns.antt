-- Each Data that a cache may hold after a valid run was allowed in an event of the run.
use Rattle.std.proofs.Common.{◌≡◌, ℕ, Bool, true, false, List, refl, sym, ap, subst, ◌∙◌, Result, Ok, inl, inr}
use Rattle.std.specs.Prelude.{Some, None, max, not, if◌then◌else◌}
use Rattle.sha2.specs.Sha256.{sha256}
use Rattle.ndn_packets.specs.FrameReading.{frame_at, token_at}
use Rattle.ndn_packets.specs.Packet.{PlainData, PlainFrame, AData}
use Rattle.ndn_packets.specs.declared.fault.PacketFault.{PacketFault}
use Rattle.info_rules.specs.declared.decision.Decision.{Decision}
use Rattle.info_rules.specs.declared.decision.Decision.TheVariants as decided
use Rattle.pit_fib.specs.Records.{Pending}
use Rattle.content_store.specs.Store.{CachedData}
use Rattle.forwarder.specs.Event.{PlainEvent, Packet, FaceUp, FaceDown, Tick, NewRules}
use Rattle.forwarder.specs.OpenFaces.{is_open}
use Rattle.forwarder.specs.Event.{moment}
use Rattle.forwarder.specs.Verdict.{Answer, DropReason, DataAllowed, Dropped, IfTrueElse, NoFace, Scope as OutOfScope, dropped}
use Rattle.forwarder.specs.Policy.{Policy, at_moment}
use Rattle.forwarder.specs.Request.{is_out_of_scope}
use Rattle.forwarder.specs.Deciding.{IsDecidedAs}
use Rattle.forwarder.specs.Replies.{Seen, Replies, RepliesByDecision, RepliesToData, RepliesToPacket}
use Rattle.forwarder.specs.Effects.{decided_packet, packet_to_decide}
use Rattle.forwarder.specs.Outcome.{outcome_of}
use Rattle.forwarder.specs.Cache.{Inserts, cache_use}
use Rattle.forwarder.specs.Runs.{Run, Start, Then, IsRun, MayHold, MayReply, now_of, seen_after}
use Rattle.forwarder.specs.Allowed.{Allows, AllowedAt, AllowedIn}
use Rattle.forwarder.proofs.Uses.{closing_inserts, read_inserts}

-- the octets of `c` are a Data that was allowed in the run when the node's time was `c.arrival`,
-- and `c` has the name, the implicit digest and the FreshnessPeriod of this Data
abbrev pub CameAllowed : Policy → Run → CachedData → Type 0
CameAllowed first run c = (d : PlainData) × AllowedAt first run (AData c.octets d) c.arrival × (c.name ≡ d.name) × (c.digest ≡ sha256 c.octets) × (c.freshness ≡ d.freshness)

module _ (was : Policy) (past : Run) (waiting : Pending) (face now : ℕ) (octets : List ℕ) (answer : Answer) (rule : ℕ) (stored : Bool) (v : answer.verdict ≡ DataAllowed rule stored) where
  abbrev arrival : PlainEvent
  arrival = Packet face now octets

  abbrev q : Policy
  q = at_moment was now

  abbrev seen : Seen
  seen = seen_after past q waiting

  data_said : (whole : List ℕ) (d : PlainData) (said : Decision) → (packet_to_decide q face (Ok (AData whole d)) ≡ Some (AData whole d)) → (decided_packet q arrival ≡ Some (AData whole d))
      → IsDecidedAs q (AData whole d) said → RepliesByDecision seen face whole d answer said → Allows was arrival (AData whole d)
  data_said whole d (decided.Allowed n) heard brings s h = record { rule = n; brings = brings; said = s }
  data_said whole d (decided.Denied n reason) heard brings s h = absurd (let e = ap (λ (a : Answer). a.verdict) h in cc (e, v))
  data_said whole d decided.NoRule heard brings s h = absurd (let e = ap (λ (a : Answer). a.verdict) h in cc (e, v))

  never : {A : Type 0} (reason : DropReason) → answer ≡ dropped reason → A
  never reason h = absurd (let e : answer.verdict ≡ Dropped reason = ap (λ (a : Answer). a.verdict) h in cc (e, v))

  data_allowed : (whole : List ℕ) (d : PlainData) → frame_at octets ≡ Ok (AData whole d) → is_open face q.faces ≡ true → RepliesToData seen face whole d answer → Allows was arrival (AData whole d)
  data_allowed whole d read open' h = by_scope (is_out_of_scope q face d.name) refl h
    where
      by_scope : (b : Bool) → is_out_of_scope q face d.name ≡ b → IfTrueElse b (answer ≡ dropped OutOfScope) ((said : Decision) × IsDecidedAs q (AData whole d) said × RepliesByDecision seen face whole d answer said)
          → Allows was arrival (AData whole d)
      by_scope true e h = never OutOfScope h
      by_scope false e h =
          let heard : packet_to_decide q face (Ok (AData whole d)) ≡ Some (AData whole d) = ap (λ (b : Bool). if not b then Some (AData whole d) else None) e in
          let brings : decided_packet q arrival ≡ Some (AData whole d) =
          ap (λ (b : Bool). if b then packet_to_decide q face (frame_at octets) else None) open' ∙ ap (λ (r : Result PlainFrame PacketFault). packet_to_decide q face r) read ∙ heard in
          data_said whole d h.0 heard brings h.1 h.2

  came_in : (whole : List ℕ) (d : PlainData) → frame_at octets ≡ Ok (AData whole d) → Replies seen arrival answer → Allows was arrival (AData whole d)
  came_in whole d read h = by_open (is_open face q.faces) refl h
    where
      by_open : (o : Bool) → is_open face q.faces ≡ o → IfTrueElse o (RepliesToPacket seen face (token_at octets) (frame_at octets) answer) (answer ≡ dropped NoFace) → Allows was arrival (AData whole d)
      by_open true e h = data_allowed whole d read e (subst (λ (r : Result PlainFrame PacketFault). RepliesToPacket seen face (token_at octets) r answer) read h)
      by_open false e h = never NoFace h

event_came : (first : Policy) (before : Run) (event : PlainEvent) (answer : Answer) (c : CachedData) (now : ℕ) → now ≡ max (now_of before) (moment event) → MayReply first before event answer
    → cache_use now (outcome_of event answer.verdict) ≡ Inserts c
    → CameAllowed first (Then before event answer) c
event_came first before (Packet face at octets) answer c now is reply used =
    let came = read_inserts now face (frame_at octets) answer.verdict c used in
    let whole = came.0 in
    let d = came.1 in
    let held = came.2 in
    let allowed = came_in reply.was before reply.waiting face at octets answer came.4.0 came.4.1 came.4.2 whole d came.3 reply.replies in (
      d,
      subst (λ (x : CachedData). AllowedAt first (Then before (Packet face at octets) answer) (AData x.octets d) x.arrival) (sym held) (inr (reply.was, reply.is_policy, allowed, is)),
      ap (λ (x : CachedData). x.name) held,
      ap (λ (x : CachedData). x.digest) held ∙ ap sha256 (sym (ap (λ (x : CachedData). x.octets) held)),
      ap (λ (x : CachedData). x.freshness) held,
    )
event_came first before (FaceUp face scope at) answer c now is reply used = cc used
event_came first before (FaceDown face at) answer c now is reply used = absurd (closing_inserts now face answer.verdict c used)
event_came first before (Tick at) answer c now is reply used = cc used
event_came first before (NewRules rules keys at) answer c now is reply used = cc used

pub cached_came_allowed : (first : Policy) (run : Run) (c : CachedData) → IsRun first run → MayHold run c → CameAllowed first run c
cached_came_allowed first Start c is h = absurd h
cached_came_allowed first (Then before event answer) c is (inl (used, waits)) = event_came first before event answer c (max (now_of before) (moment event)) refl is.1 used
cached_came_allowed first (Then before event answer) c is (inr (h, stays)) =
    let k = cached_came_allowed first before c is.0 h in (k.0, inl k.1, k.2, k.3, k.4)

-- a packet that was allowed at some moment of the run was allowed in the run
pub allowed_then : (first : Policy) (run : Run) (packet : PlainFrame) (now : ℕ) → AllowedAt first run packet now → AllowedIn first run packet
allowed_then first Start packet now h = absurd h
allowed_then first (Then before event answer) packet now (inl h) = inl (allowed_then first before packet now h)
allowed_then first (Then before event answer) packet now (inr h) = inr (h.0, h.1, h.2)

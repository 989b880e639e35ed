-- Advancing time to the moment of a packet, and then answering the packet, is one step of the node.
use Rattle.std.proofs.Common.{◌≡◌, ℕ, Bool, true, false, cond, List, [], ◌++◌, Option, None, Some, Result, Ok, Err, inl, inr, refl, sym, ap, subst, ◌∙◌}
use Rattle.std.specs.Prelude.{◌⊎◌, IfOk}
use Rattle.std.proofs.lemmas.List.{append-nil}
use Rattle.ndn_tlv.specs.declared.memory.Memory.{Memory}
use Rattle.forwarder.specs.declared.state.State.{State}
use Rattle.forwarder.specs.declared.verdict.Verdict as code
use Rattle.forwarder.specs.declared.verdict.DropReason as code_reason
use Rattle.forwarder.specs.declared.verdict.Verdict.TheVariants as said
use Rattle.ndn_packets.specs.FrameReading.{frame_at, token_at}
use Rattle.ndn_packets.specs.Packet.{PlainFrame, Idle as AnIdle}
use Rattle.ndn_packets.specs.declared.fault.PacketFault.{PacketFault}
use Rattle.content_store.specs.Store.{StoreState}
use Rattle.forwarder.specs.Event.{PlainEvent, Packet, Send, Token}
use Rattle.forwarder.specs.OpenFaces.{is_open}
use Rattle.forwarder.specs.Verdict.{IfTrueElse, Answer, DropReason, Dropped, dropped, Malformed, Idle, NoFace, reason_of, verdict_of}
use Rattle.forwarder.specs.Policy.{Policy, at_moment}
use Rattle.forwarder.specs.Request.{is_decided}
use Rattle.forwarder.specs.Effects.{IsAfter, IsEffect, decided_packet, packet_to_decide}
use Rattle.forwarder.specs.Outcome.{Outcome, read_outcome}
use Rattle.forwarder.specs.Causes.{causes_by}
use Rattle.forwarder.specs.Cache.{CacheAfter, cache_use}
use Rattle.forwarder.specs.Replies.{RepliesToPacket}
use Rattle.forwarder.specs.Handling.{IsAnswered, IsHandled, IsPacketEffect, packet_causes, packet_use}
use Rattle.forwarder.specs.Node.{NodeState, FollowAll, IsStep, NeedsNoMemory, seen_in}
use Rattle.forwarder.specs.State.{IsLater, state_of}
use Rattle.forwarder.proofs.Uses.{dropped_outcome}

pub where_true : (A B : Type 0) (b : Bool) → b ≡ true → A → IfTrueElse b A B
where_true A B true e a = a
where_true A B false e a = absurd cc

pub where_false : (A B : Type 0) (b : Bool) → b ≡ false → B → IfTrueElse b A B
where_false A B true e a = absurd cc
where_false A B false e a = a

module _ (old was new : NodeState) (face now : ℕ) (octets : List ℕ) (answer : Answer) (later : IsLater old now was) where
  abbrev event : PlainEvent
  event = Packet face now octets

  abbrev p : Policy
  p = at_moment old.policy now

  -- In this module, octets came on an open face, the octets were read as `packet`, time advanced,
  -- and `packet` was answered. Advancing time and answering `packet` are together one step.
  module _ (is_here : is_open face old.policy.faces ≡ true) (packet : PlainFrame) (read : frame_at octets ≡ Ok packet)
      (answered : IsAnswered was face (token_at octets) packet answer new) where
    replies_read : RepliesToPacket (seen_in p was.pending old.cache) face (token_at octets) (frame_at octets) answer
    replies_read =
        subst (λ (r : Result PlainFrame PacketFault). RepliesToPacket (seen_in p was.pending old.cache) face (token_at octets) r answer) (sym read)
        (subst (λ (c : StoreState). RepliesToPacket (seen_in p was.pending c) face (token_at octets) (Ok packet) answer) later.cache
        (subst (λ (q : Policy). RepliesToPacket (seen_in q was.pending was.cache) face (token_at octets) (Ok packet) answer) later.policy answered.replies))

    cache_read : CacheAfter p.now was.pending (cache_use p.now (read_outcome face (frame_at octets) answer.verdict)) old.cache new.cache
    cache_read =
        subst (λ (r : Result PlainFrame PacketFault). CacheAfter p.now was.pending (cache_use p.now (read_outcome face r answer.verdict)) old.cache new.cache) (sym read)
        (subst (λ (c : StoreState). CacheAfter p.now was.pending (packet_use p.now face packet answer.verdict) c new.cache) later.cache
        (subst (λ (q : Policy). CacheAfter q.now was.pending (packet_use q.now face packet answer.verdict) was.cache new.cache) later.policy answered.cache))

    effect_by : (b : Bool) → IsPacketEffect p face packet new.policy b → IsEffect p event new.policy (cond b (Some packet) None)
    effect_by true e = e
    effect_by false e = e

    decided_is : decided_packet p event ≡ cond (is_decided p face packet) (Some packet) None
    decided_is =
        ap (λ (b : Bool). cond b (packet_to_decide p face (frame_at octets)) None) is_here
        ∙ ap (λ (r : Result PlainFrame PacketFault). packet_to_decide p face r) read

    effect_read : IsAfter old.policy event new.policy
    effect_read =
        subst (λ (o : Option PlainFrame). IsEffect p event new.policy o) (sym decided_is)
        (effect_by (is_decided p face packet)
        (subst (λ (q : Policy). IsPacketEffect q face packet new.policy (is_decided q face packet)) later.policy answered.policy))

    pub packet_step : IsStep old event answer new
    packet_step = record {
      waiting = was.pending;
      living = later.living;
      expiry = later.expiry;
      replies = where_true _ _ (is_open face old.policy.faces) is_here replies_read;
      policy = effect_read;
      pending = subst (λ (r : Result PlainFrame PacketFault). FollowAll (causes_by p.now (token_at octets) answer.sends (read_outcome face r answer.verdict)) was.pending new.pending) (sym read)
          (subst (λ (q : Policy). FollowAll (packet_causes q.now face (token_at octets) packet answer) was.pending new.pending) later.policy answered.pending);
      alive = answered.alive;
      cache = cache_read;
    }

-- if octets that came on an open face are read as `packet`, and the event needs no memory, then
-- `packet` needs no memory
pub needs_read : (p : Policy) (face : ℕ) (read : Result PlainFrame PacketFault) (packet : PlainFrame) → is_open face p.faces ≡ true → read ≡ Ok packet
    → (is_open face p.faces ≡ false) ⊎ NeedsNoMemory p face read → NeedsNoMemory p face (Ok packet)
needs_read p face read packet here is (inl closed) = cc (here, closed)
needs_read p face read packet here is (inr needs) = subst (NeedsNoMemory p face) is needs

-- ---- the step for a packet that is dropped

module _ (old new : NodeState) (face now : ℕ) (octets : List ℕ) (later : IsLater old now new) where
  same_pending : (reason : DropReason) → FollowAll (causes_by (at_moment old.policy now).now (token_at octets) [] (read_outcome face (frame_at octets) (Dropped reason))) new.pending new.pending
  same_pending reason = subst (λ (o : Outcome). FollowAll (causes_by (at_moment old.policy now).now (token_at octets) [] o) new.pending new.pending) (sym (dropped_outcome face (frame_at octets) reason)) (λ key. refl)

  same_cache : (reason : DropReason) → CacheAfter (at_moment old.policy now).now new.pending (cache_use (at_moment old.policy now).now (read_outcome face (frame_at octets) (Dropped reason))) old.cache new.cache
  same_cache reason =
      subst (λ (o : Outcome). CacheAfter (at_moment old.policy now).now new.pending (cache_use (at_moment old.policy now).now o) old.cache new.cache)
      (sym (dropped_outcome face (frame_at octets) reason)) later.cache

  abbrev q : Policy
  q = at_moment old.policy now

  pub closed_step : is_open face old.policy.faces ≡ false → IsStep old (Packet face now octets) (dropped NoFace) new
  closed_step closed = record {
    waiting = new.pending;
    living = later.living;
    expiry = later.expiry;
    replies = where_false _ _ (is_open face old.policy.faces) closed refl;
    policy = subst (λ (o : Option PlainFrame). IsEffect q (Packet face now octets) new.policy o)
        (sym (ap (λ (b : Bool). cond b (packet_to_decide q face (frame_at octets)) None) closed)) later.policy;
    pending = same_pending NoFace;
    alive = later.living;
    cache = same_cache NoFace;
  }

  module _ (is_here : is_open face old.policy.faces ≡ true) where
    undecided : (read : Result PlainFrame PacketFault) → frame_at octets ≡ read → packet_to_decide q face read ≡ None
        → IsEffect q (Packet face now octets) new.policy (decided_packet q (Packet face now octets))
    undecided read is none =
        subst (λ (o : Option PlainFrame). IsEffect q (Packet face now octets) new.policy o)
        (sym (ap (λ (b : Bool). cond b (packet_to_decide q face (frame_at octets)) None) is_here
        ∙ ap (λ (r : Result PlainFrame PacketFault). packet_to_decide q face r) is ∙ none)) later.policy

    pub malformed_step : (fault : PacketFault) → frame_at octets ≡ Err fault → IsStep old (Packet face now octets) (dropped (Malformed fault)) new
    malformed_step fault read = record {
      waiting = new.pending;
      living = later.living;
      expiry = later.expiry;
      replies = where_true _ _ (is_open face old.policy.faces) is_here
          (subst (λ (r : Result PlainFrame PacketFault). RepliesToPacket (seen_in q new.pending old.cache) face (token_at octets) r (dropped (Malformed fault))) (sym read) refl);
      policy = undecided (Err fault) read refl;
      pending = same_pending (Malformed fault);
      alive = later.living;
      cache = same_cache (Malformed fault);
    }

    pub idle_step : frame_at octets ≡ Ok AnIdle → IsStep old (Packet face now octets) (dropped Idle) new
    idle_step read = record {
      waiting = new.pending;
      living = later.living;
      expiry = later.expiry;
      replies = where_true _ _ (is_open face old.policy.faces) is_here
          (subst (λ (r : Result PlainFrame PacketFault). RepliesToPacket (seen_in q new.pending old.cache) face (token_at octets) r (dropped Idle)) (sym read) refl);
      policy = undecided (Ok AnIdle) read refl;
      pending = same_pending Idle;
      alive = later.living;
      cache = same_cache Idle;
    }

-- ---- the work of a handler is one step

-- a step with `verdict` leads from `old` to `new`, and appending the sends of the step to `before`
-- gives `after`
abbrev pub StepsBy : NodeState → NodeState → List Send → List Send → PlainEvent → code.Verdict → Type 0
StepsBy old new before after event verdict =
    (sends : List Send) × (after ≡ before ++ sends) × IsStep old event (record { verdict = verdict_of verdict; sends = sends }) new

pub drops_by : (old new : NodeState) (before : List Send) (event : PlainEvent) (verdict : code.Verdict) (reason : code_reason.DropReason)
    → verdict ≡ said.Dropped reason → IsStep old event (dropped (reason_of reason)) new → StepsBy old new before before event verdict
drops_by old new before event verdict reason is step =
    ([], sym (append-nil before), subst (λ (v : code.Verdict). IsStep old event (record { verdict = verdict_of v; sends = [] }) new) (sym is) step)

pub handles_by : (old new : State) (before after : List Send) (face : ℕ) (token : Token) (now : ℕ) (octets : List ℕ) (packet : PlainFrame) (r : Result code.Verdict Memory)
    → is_open face old.faces ≡ true → token ≡ token_at octets → frame_at octets ≡ Ok packet → IfOk r (IsHandled old new before after face token now packet)
    → IfOk r (StepsBy (state_of old) (state_of new) before after (Packet face now octets))
handles_by old new before after face token now octets packet (Err memory) is_here its read handled = tt
handles_by old new before after face token now octets packet (Ok verdict) is_here its read (was, sends, is, later, answered) =
    let answer : Answer = record { verdict = verdict_of verdict; sends = sends } in (
      sends,
      is,
      packet_step (state_of old) was (state_of new) face now octets answer later is_here packet read
          (subst (λ (t : Token). IsAnswered was face t packet answer (state_of new)) its answered),
    )

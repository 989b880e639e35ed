-- How a Data is answered after time has advanced to the moment of its arrival. Two conditions under
-- which `HandlesPacket` is true of a packet.
use Rattle.std.proofs.Common.{◌≡◌, ℕ, Bool, true, false, not, List, [], refl, sym, ap, subst, ◌∙◌}
use Rattle.std.specs.Prelude.{Result, Ok, Err, IfOk, IsErr, IsOk, nat_lt}
use Rattle.std.proofs.lemmas.Bool.{false≢true}
use Rattle.std.specs.List.{list_any}
use Rattle.std.specs.FinMap.{entries}
use Rattle.sha2.specs.Sha256.{sha256}
use Rattle.ndn_tlv.specs.Element.{Field}
use Rattle.ndn_tlv.specs.declared.memory.Memory.{Memory}
use Rattle.ndn_packets.specs.Answers.{answers}
use Rattle.ndn_packets.specs.Packet.{PlainData, PlainFrame, AData}
use Rattle.info_rules.specs.declared.decision.Decision.TheVariants as decided
use Rattle.info_rules.specs.declared.decision.Reason.{Reason}
use Rattle.info_rules.specs.declared.rule.Kind.TheVariants as kinds
use Rattle.info_rules.specs.declared.rules.RuleNo.{RuleNo}
use Rattle.pit_fib.specs.Cause.{Follows, Satisfied}
use Rattle.pit_fib.specs.Records.{HoldsTheLiving}
use Rattle.repo_core.specs.Repo.{after_offer}
use Rattle.repo_core.specs.Wants.{Wants, is_wanted, want_cmp, wants_after}
use Rattle.repo_core.proofs.Kept.{entries-kept}
use Rattle.repo_core.proofs.Spares.{any_of_part}
use Rattle.forwarder.specs.declared.state.State.{State}
use Rattle.forwarder.specs.declared.verdict.Verdict as code
use Rattle.forwarder.specs.Event.{Send, Token}
use Rattle.forwarder.specs.Verdict.{DataAllowed, Denied, NoRule, Scope, dropped}
use Rattle.forwarder.specs.Policy.{Policy}
use Rattle.forwarder.specs.Request.{is_out_of_scope}
use Rattle.forwarder.specs.Deciding.{IsDecidedAs}
use Rattle.forwarder.specs.Replies.{IsSentToAskers}
use Rattle.forwarder.specs.Handling.{HandlesPacket, IsAnswered, IsHandled, IsPacketEffect, seen_by}
use Rattle.forwarder.specs.Cache.{CacheAfter, Inserts, held_from}
use Rattle.forwarder.specs.Node.{NodeState}
use Rattle.forwarder.specs.State.{IsLater, state_of}
use Rattle.forwarder.proofs.Handled.{where_true, where_false}

-- ---- whether memory ran out, and what advancing time leaves unchanged

-- if memory ran out, and the node is unchanged, and nothing was sent, then `HandlesPacket` is true
pub refused_packet : {old new : State} {before after : List Send} {face : ℕ} {token : Token} {moment : ℕ} {packet : PlainFrame} (r : Result code.Verdict Memory) → IsErr r
    → (state_of new ≡ state_of old) × (after ≡ before) → HandlesPacket old new before after face token moment packet r
refused_packet (Ok verdict) refused kept = absurd (false≢true refused)
refused_packet (Err memory) refused kept = record { handled = tt; memory = kept }

-- if memory did not run out and the packet was handled, then `HandlesPacket` is true
pub sure_packet : {old new : State} {before after : List Send} {face : ℕ} {token : Token} {moment : ℕ} {packet : PlainFrame} (r : Result code.Verdict Memory) → IsOk r
    → IfOk r (IsHandled old new before after face token moment packet) → HandlesPacket old new before after face token moment packet r
sure_packet (Ok verdict) done handled = record { handled = handled; memory = tt }
sure_packet (Err memory) done handled = absurd (false≢true done)

-- a node is unchanged if its policy, its pending Interests and its cache are
pub unchanged : (old new : NodeState) → new.policy ≡ old.policy → new.pending ≡ old.pending → new.cache ≡ old.cache → new ≡ old
unchanged old new policy pending cache = λ j. record { policy = policy j; pending = pending j; cache = cache j }

-- advancing time does not change whether a name is out of scope
pub later_scope : (old was : NodeState) (face now : ℕ) (name : List Field) → IsLater old now was
    → is_out_of_scope was.policy face name ≡ is_out_of_scope old.policy face name
later_scope old was face now name later = ap (λ (p : Policy). is_out_of_scope p face name) later.policy

pub still_wanted : (now : ℕ) (name : List Field) (digest : List ℕ) (wants : Wants) → is_wanted name digest (wants_after now wants) ≡ true → is_wanted name digest wants ≡ true
still_wanted now name digest wants some =
    any_of_part (λ w. answers name digest w.0.0 w.0.1) (λ w. nat_lt now w.1) (entries wants)
    (sym (ap (list_any (λ w. answers name digest w.0.0 w.0.1)) (entries-kept want_cmp (λ w. nat_lt now w.1) wants)) ∙ some)

-- ---- the answer to a Data

module _ (was new : NodeState) (face : ℕ) (token : Token) (whole : List ℕ) (d : PlainData) where
  module _ (sends : List Send) (rule : RuleNo) (stored : Bool) (is : stored ≡ is_wanted d.name (sha256 whole) was.policy.held.wants) (here : is_out_of_scope was.policy face d.name ≡ false)
      (said : IsDecidedAs was.policy (AData whole d) (decided.Allowed rule)) where
    pub data_delivered : IsSentToAskers (seen_by was) face whole d sends
        → new.policy ≡ record was.policy { held = after_offer d.name (sha256 whole) whole was.policy.held }
        → Follows (Satisfied d.name (sha256 whole)) was.pending new.pending → HoldsTheLiving new.pending
        → CacheAfter was.policy.now was.pending (Inserts (held_from was.policy.now whole d)) was.cache new.cache
        → IsAnswered was face token (AData whole d) (record { verdict = DataAllowed rule.0 stored; sends = sends }) new
    data_delivered sent policy pending living cache = record {
      replies = where_false _ _ (is_out_of_scope was.policy face d.name) here (decided.Allowed rule, said, (ap (DataAllowed rule.0) is, sent));
      policy = subst (λ b. IsPacketEffect was.policy face (AData whole d) new.policy (not b)) (sym here) (decided.Allowed rule, said, policy);
      pending = pending;
      alive = living;
      cache = cache;
    }

module _ (was : NodeState) (face : ℕ) (token : Token) (whole : List ℕ) (d : PlainData) (living : HoldsTheLiving was.pending) where
  pub data_out_of_scope : is_out_of_scope was.policy face d.name ≡ true → IsAnswered was face token (AData whole d) (dropped Scope) was
  data_out_of_scope here = record {
    replies = where_true _ _ (is_out_of_scope was.policy face d.name) here refl;
    policy = subst (λ b. IsPacketEffect was.policy face (AData whole d) was.policy (not b)) (sym here) refl;
    pending = λ key. refl;
    alive = living;
    cache = refl;
  }

  module _ (here : is_out_of_scope was.policy face d.name ≡ false) where
    pub data_denied : (rule : RuleNo) (reason : Reason) → IsDecidedAs was.policy (AData whole d) (decided.Denied rule reason)
        → IsAnswered was face token (AData whole d) (record { verdict = Denied kinds.Data rule.0 reason; sends = [] }) was
    data_denied rule reason said = record {
      replies = where_false _ _ (is_out_of_scope was.policy face d.name) here (decided.Denied rule reason, said, refl);
      policy = subst (λ b. IsPacketEffect was.policy face (AData whole d) was.policy (not b)) (sym here) (decided.Denied rule reason, said, refl);
      pending = λ key. refl;
      alive = living;
      cache = refl;
    }

    pub data_by_no_rule : IsDecidedAs was.policy (AData whole d) decided.NoRule
        → IsAnswered was face token (AData whole d) (record { verdict = NoRule kinds.Data; sends = [] }) was
    data_by_no_rule said = record {
      replies = where_false _ _ (is_out_of_scope was.policy face d.name) here (decided.NoRule, said, refl);
      policy = subst (λ b. IsPacketEffect was.policy face (AData whole d) was.policy (not b)) (sym here) (decided.NoRule, said, refl);
      pending = λ key. refl;
      alive = living;
      cache = refl;
    }

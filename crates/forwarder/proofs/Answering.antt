-- How an Interest for Data is answered. If the Interest loops, a Nack is sent back. An Interest
-- that does not loop is answered from the cache or the repository, or else according to the
-- strategy's choice.
use Rattle.std.proofs.Common.{◌≡◌, ℕ, ◌≤◌, Bool, true, false, cond, List, [], ◌∷◌, length, Option, None, Some, Result, Ok, Err, inl, inr, refl, sym, ap, subst, ◌∙◌}
use Rattle.std.specs.Prelude.{◌⊎◌, IfOk, max, not, ◌&&◌, IfSome}
use Rattle.std.specs.List.{All}
use Rattle.std.specs.FinMap.{entries, find, get-entries}
use Rattle.std.specs.Ordering.{is_eq}
use Rattle.std.proofs.Math.Bridge.{le_prop}
use Rattle.std.proofs.Math.Logic.{∥∥₁_elim}
use Rattle.std.proofs.lemmas.Cmp.{tied_itself}
use Rattle.std.proofs.lemmas.List.Elements.{All-contains, All-head}
use Rattle.ndn_tlv.specs.Element.{Field}
use Rattle.ndn_tlv.specs.declared.memory.Memory.{Memory}
use Rattle.ndn_names.specs.Key.{name_cmp-total}
use Rattle.ndn_names.specs.Order.{name_cmp}
use Rattle.ndn_packets.specs.Grammar.{IsData, IsInterest}
use Rattle.ndn_packets.specs.Key.{PlainKey, key_of}
use Rattle.ndn_packets.specs.Packet.{PlainData, PlainInterest, AnInterest}
use Rattle.ndn_packets.specs.Link.{IsToken}
use Rattle.ndn_packets.specs.declared.types.TheConstants.{DUPLICATE}
use Rattle.pit_fib.specs.Pit.{loops}
use Rattle.pit_fib.specs.Records.{HoldsTheLiving, is_alive, records_at}
use Rattle.pit_fib.specs.Cause.{Cause}
use Rattle.content_store.specs.Store.{CachedData, CanServe, Finds, IsCachedData, IsLeast, IsStore, StoreState}
use Rattle.repo_core.specs.Objects.{AreObjects, IsObject, Objects, first_octets, full_name_answers, kept, served}
use Rattle.repo_core.proofs.Kept.{entries-kept}
use Rattle.repo_core.proofs.Stored.{kept_objects}
use Rattle.forwarder.specs.declared.state.State.{State}
use Rattle.forwarder.specs.declared.verdict.Verdict as code
use Rattle.forwarder.specs.Causes.{is_nack}
use Rattle.forwarder.specs.Cache.{CacheAfter, CacheUse}
use Rattle.forwarder.specs.Event.{Send, to_each, Token, nacked_back, sent_back}
use Rattle.forwarder.specs.Verdict.{Answer, DropReason, Dropped, HopLimit, Loop, Passed, PitFull, Scope, Verdict, dropped, passed, verdict_of}
use Rattle.forwarder.specs.Policy.{Policy}
use Rattle.forwarder.specs.Request.{ForData, Refused, Request, has_no_hops, is_command, is_out_of_scope, list_asked, named_request, request_of}
use Rattle.forwarder.specs.Replies.{RepliesForData, RepliesToRequest, Seen, by_repository, by_strategy}
use Rattle.forwarder.specs.NextHops.{sent_on}
use Rattle.strategies.specs.declared.strategy.Choice.{Choice}
use Rattle.strategies.specs.declared.strategy.Choice.TheVariants as choices
use Rattle.forwarder.specs.Forwarding.{ForwardsBy, IsForwarded, choice_from}
use Rattle.forwarder.specs.Handling.{IsAnswered, IsHandled, IsPacketEffect, packet_causes, packet_use, seen_by}
use Rattle.forwarder.specs.Node.{FollowAll, NodeState}
use Rattle.forwarder.specs.State.{IsLater, IsSound, state_of}
use Rattle.forwarder.proofs.Contents.{begins, begins_data, data_is_no_nack}
use Rattle.forwarder.proofs.GoingOn.{tick_step}
use Rattle.forwarder.proofs.Handled.{where_true, where_false}
use Rattle.forwarder.proofs.ListSteps.{back_causes}
use Rattle.forwarder.proofs.Requests.{for_data}
use Rattle.forwarder.proofs.Soundness.{step_sound}
use Rattle.forwarder.proofs.Uses.{data_use}

-- ---- Data that the cache or the repository gives fit in a packet and are not Nacks

-- octets that fit in a packet and that are not a Nack
abbrev pub CanGoBack : List ℕ → Type 0
CanGoBack octets = (length octets ≤ 8800) × (is_nack octets ≡ false)

data_goes_back : (octets : List ℕ) (d : PlainData) → IsData octets d → CanGoBack octets
data_goes_back octets d read = (read.fields.short, data_is_no_nack octets (ap (begins 6) read.fields.outer.1 ∙ begins_data read.fields.value))

pub cached_goes_back : (key : PlainKey) (now : ℕ) (before after : StoreState) (octets : List ℕ) → IsStore after → Finds key now before (Some octets) after → CanGoBack octets
cached_goes_back key now before after octets store (c, least, is, used) =
    let first : IsCachedData c = All-head IsCachedData c _ (subst (λ (s : StoreState). All IsCachedData s.cached) used store.each_data) in
    subst CanGoBack (sym is) (data_goes_back c.octets first.packet first.read)

pub served_goes_back : (name : List Field) (flag : Bool) (objects : Objects) (octets : List ℕ) → AreObjects objects → served name flag objects ≡ Some octets → CanGoBack octets
served_goes_back name flag objects octets are is =
    first (entries (kept test objects)) refl (ap first_octets (entries-kept name_cmp test objects) ∙ is)
  where
    test : List Field × List ℕ → Bool
    test = λ o. full_name_answers name flag o.0

    first : (rows : List (List Field × List ℕ)) → entries (kept test objects) ≡ rows → first_octets rows ≡ Some octets → CanGoBack octets
    first [] e none = absurd cc
    first (o ∷ os) e some =
        let found = get-entries (kept test objects) o.0 ∙ ap (find name_cmp o.0) e
        ∙ ap (λ r. cond (is_eq r) (Some o.1) (find name_cmp o.0 os)) (tied_itself name_cmp-total o.0) ∙ some in
        let object : IsObject o.0 octets = kept_objects test objects are o.0 octets found in
        data_goes_back octets object.packet object.read

pub interest_is_short : (whole : List ℕ) (i : PlainInterest) → ∥ IsInterest whole i ∥₁ → length whole ≤ 8800
interest_is_short whole i spelled = ∥∥₁_elim spelled le_prop (λ h. h.fields.short)

-- ---- the verdict for the strategy's choice is Passed or Dropped PitFull

strategy_passes : (seen : Seen) (key : PlainKey) (whole : List ℕ) (i : PlainInterest) (face : ℕ) (token : Token) (choice : Choice)
    → ((by_strategy seen key whole i face token choice).verdict ≡ Passed) ⊎ ((by_strategy seen key whole i face token choice).verdict ≡ Dropped PitFull)
strategy_passes seen key whole i face token choices.NoRoute = inl refl
strategy_passes seen key whole i face token (choices.Send faces) = by_full (not (is_alive (seen.records key)) && seen.is_full)
  where
    by_full : (b : Bool) → ((cond b (dropped PitFull) (passed (to_each faces (sent_on whole i.hop_limit)))).verdict ≡ Passed)
        ⊎ ((cond b (dropped PitFull) (passed (to_each faces (sent_on whole i.hop_limit)))).verdict ≡ Dropped PitFull)
    by_full true = inr refl
    by_full false = inl refl

-- ---- the node once time has advanced to the moment of an Interest

pub later_sound : (old was : NodeState) (moment : ℕ) → IsSound old → IsLater old moment was → IsSound was
later_sound old was moment sound later = step_sound old was _ _ sound (tick_step old was moment later)

-- ---- the Data that can answer an Interest when time has advanced to the Interest's moment

-- if no cached Data can serve the key, then `IsLeast` is false for every Data
pub nothing_served : (key : PlainKey) (now : ℕ) (cached : List CachedData) (c : CachedData) → IsLeast (CanServe key now) cached c → All (λ d. ¬ CanServe key now d) cached → ⊥
nothing_served key now cached c least none = All-contains (λ d. ¬ CanServe key now d) cached c none least.is_cached least.has

module _ (old was : NodeState) (moment : ℕ) (later : IsLater old moment was) where
  abbrev then : ℕ
  then = max old.policy.now moment

  now_then : was.policy.now ≡ then
  now_then = ap (λ (p : Policy). p.now) later.policy

  pub least_then : (key : PlainKey) (c : CachedData) → IsLeast (CanServe key then) old.cache.cached c → IsLeast (CanServe key was.policy.now) was.cache.cached c
  least_then key c least =
      subst (λ (s : StoreState). IsLeast (CanServe key was.policy.now) s.cached c) (sym later.cache)
      (subst (λ (n : ℕ). IsLeast (CanServe key n) old.cache.cached c) (sym now_then) least)

  pub uncached_then : (key : PlainKey) → All (λ c. ¬ CanServe key then c) old.cache.cached → Finds key was.policy.now was.cache None was.cache
  uncached_then key none = (
    subst (λ (s : StoreState). All (λ c. ¬ CanServe key was.policy.now c) s.cached) (sym later.cache)
        (subst (λ (n : ℕ). All (λ c. ¬ CanServe key n c) old.cache.cached) (sym now_then) none),
    refl,
  )

  pub served_then : (name : List Field) (flag : Bool) → served name flag was.policy.held.objects ≡ served name flag old.policy.held.objects
  served_then name flag = ap (λ (p : Policy). served name flag p.held.objects) later.policy

-- ---- an Interest that is refused is dropped

pub no_hops_refused : (p : Policy) (face : ℕ) (i : PlainInterest) → has_no_hops i.hop_limit ≡ true → request_of p face i ≡ Refused HopLimit
no_hops_refused p face i none = ap (λ (b : Bool). cond b (Refused HopLimit) (cond (is_out_of_scope p face i.name) (Refused Scope) (named_request p i (list_asked i)))) none

module _ (p : Policy) (face : ℕ) (i : PlainInterest) (some : has_no_hops i.hop_limit ≡ false) where
  by_scope : request_of p face i ≡ cond (is_out_of_scope p face i.name) (Refused Scope) (named_request p i (list_asked i))
  by_scope = ap (λ (b : Bool). cond b (Refused HopLimit) (cond (is_out_of_scope p face i.name) (Refused Scope) (named_request p i (list_asked i)))) some

  pub scope_refused : is_out_of_scope p face i.name ≡ true → request_of p face i ≡ Refused Scope
  scope_refused out = by_scope ∙ ap (λ (b : Bool). cond b (Refused Scope) (named_request p i (list_asked i))) out

  pub request_by_name : is_out_of_scope p face i.name ≡ false → request_of p face i ≡ named_request p i (list_asked i)
  request_by_name here = by_scope ∙ ap (λ (b : Bool). cond b (Refused Scope) (named_request p i (list_asked i))) here

module _ (old was : NodeState) (moment face : ℕ) (token : Token) (whole : List ℕ) (i : PlainInterest) (tok : IfSome token IsToken) (later : IsLater old moment was) where
  same_request : request_of was.policy face i ≡ request_of old.policy face i
  same_request = ap (λ (p : Policy). request_of p face i) later.policy

  pub refused_answered : (reason : DropReason) → request_of old.policy face i ≡ Refused reason → IsAnswered was face token (AnInterest whole i) (dropped reason) was
  refused_answered reason is =
      let request : request_of was.policy face i ≡ Refused reason = same_request ∙ is in
      record {
        replies = subst (λ (r : Request). RepliesToRequest (seen_by was) face token whole i (dropped reason) r) (sym request) refl;
        policy = subst (λ (r : Request). IsPacketEffect was.policy face (AnInterest whole i) was.policy (is_command r)) (sym request) refl;
        pending = λ key. refl;
        alive = later.living;
        cache = refl;
      }

  -- ---- the answer to an Interest for Data

  module _ (is : request_of old.policy face i ≡ ForData) where
    data_answered : (new : NodeState) (answer : Answer) → RepliesForData (seen_by was) face token whole i answer → new.policy ≡ was.policy
        → FollowAll (packet_causes was.policy.now face token (AnInterest whole i) answer) was.pending new.pending → HoldsTheLiving new.pending
        → CacheAfter was.policy.now was.pending (packet_use was.policy.now face (AnInterest whole i) answer.verdict) was.cache new.cache
        → IsAnswered was face token (AnInterest whole i) answer new
    data_answered new answer replies policy pending living cache =
        let request : request_of was.policy face i ≡ ForData = same_request ∙ is in
        record {
          replies = subst (λ (r : Request). RepliesToRequest (seen_by was) face token whole i answer r) (sym request) replies;
          policy = subst (λ (r : Request). IsPacketEffect was.policy face (AnInterest whole i) new.policy (is_command r)) (sym request) policy;
          pending = pending;
          alive = living;
          cache = cache;
        }

    abbrev is_loop : Bool
    is_loop = loops (records_at was.pending (key_of i)) face i.nonce

    pub loop_answered : is_loop ≡ true → IsAnswered was face token (AnInterest whole i) (record { verdict = Dropped Loop; sends = nacked_back face token DUPLICATE whole ∷ [] }) was
    loop_answered loop = data_answered was _ (where_true _ _ is_loop loop refl) refl (λ key. refl) later.living refl

    module _ (once : is_loop ≡ false) (after : StoreState) where
      -- Let the lookup of the Interest's key return `given`, and let `after` be the cache after the
      -- lookup. Then `CacheAfter` is true of `after` for an Interest with the verdict Passed.
      looked_up : (given : Option (List ℕ)) → Finds (key_of i) was.policy.now was.cache given after
          → CacheAfter was.policy.now was.pending (packet_use was.policy.now face (AnInterest whole i) Passed) was.cache after
      looked_up given found =
          subst (λ (used : CacheUse). CacheAfter was.policy.now was.pending used was.cache after) (sym (data_use was.policy.now face whole i (for_data old.policy face i is))) (given, found)

      back_follows : (octets : List ℕ) → CanGoBack octets
          → FollowAll (packet_causes was.policy.now face token (AnInterest whole i) (passed (sent_back face token octets ∷ []))) was.pending was.pending
      back_follows octets fits =
          subst (λ (causes : List Cause). FollowAll causes was.pending was.pending) (sym (back_causes was.policy.now face token whole i octets tok fits.0 fits.1)) (λ key. refl)

      pub cache_answered : (octets : List ℕ) → CanGoBack octets → Finds (key_of i) was.policy.now was.cache (Some octets) after
          → IsAnswered was face token (AnInterest whole i) (passed (sent_back face token octets ∷ [])) (record was { cache = after })
      cache_answered octets fits found =
          data_answered (record was { cache = after }) (passed (sent_back face token octets ∷ []))
          (where_false _ _ is_loop once (Some octets, (found.0, found.1, found.2), refl)) refl (back_follows octets fits) later.living
          (looked_up (Some octets) found)

      module _ (none : Finds (key_of i) was.policy.now was.cache None after) where
        pub repository_answered : (octets : List ℕ) → CanGoBack octets → served i.name i.can_be_prefix was.policy.held.objects ≡ Some octets
            → IsAnswered was face token (AnInterest whole i) (passed (sent_back face token octets ∷ [])) (record was { cache = after })
        repository_answered octets fits some =
            data_answered (record was { cache = after }) (passed (sent_back face token octets ∷ []))
            (where_false _ _ is_loop once (None, none.0, sym (ap (by_repository (seen_by was) face token whole i) some))) refl (back_follows octets fits) later.living
            (looked_up None none)

        module _ (unheld : served i.name i.can_be_prefix was.policy.held.objects ≡ None) where
          -- if the lookup found no Data, then `CacheAfter` is true of the cache after the lookup,
          -- both for the verdict Passed and for the verdict Dropped PitFull
          by_verdict : (new : NodeState) (v : Verdict) → (v ≡ Passed) ⊎ (v ≡ Dropped PitFull) → new.cache ≡ after
              → CacheAfter was.policy.now was.pending (packet_use was.policy.now face (AnInterest whole i) v) was.cache new.cache
          by_verdict new v (inl e) same =
              subst (λ (u : Verdict). CacheAfter was.policy.now was.pending (packet_use was.policy.now face (AnInterest whole i) u) was.cache new.cache) (sym e)
              (subst (λ (s : StoreState). CacheAfter was.policy.now was.pending (packet_use was.policy.now face (AnInterest whole i) Passed) was.cache s) (sym same) (looked_up None none))
          by_verdict new v (inr e) same =
              subst (λ (u : Verdict). CacheAfter was.policy.now was.pending (packet_use was.policy.now face (AnInterest whole i) u) was.cache new.cache) (sym e) (same ∙ none.1)

          missed : (answer : Answer) (new : NodeState)
              → IsForwarded (record was { cache = after }) face token whole i (choice_from (record was { cache = after }) face i) answer new
              → CacheAfter was.policy.now was.pending (packet_use was.policy.now face (AnInterest whole i) answer.verdict) was.cache new.cache
          missed answer new h =
              by_verdict new answer.verdict
              (subst (λ (a : Answer). (a.verdict ≡ Passed) ⊎ (a.verdict ≡ Dropped PitFull)) (sym h.replied)
              (strategy_passes (seen_by (record was { cache = after })) (key_of i) whole i face token (choice_from (record was { cache = after }) face i))) h.cache

          forward_answered : (answer : Answer) (new : NodeState)
              → IsForwarded (record was { cache = after }) face token whole i (choice_from (record was { cache = after }) face i) answer new
              → IsAnswered was face token (AnInterest whole i) answer new
          forward_answered answer new h =
              data_answered new answer
              (where_false _ _ is_loop once (None, none.0, h.replied ∙ sym (ap (by_repository (seen_by was) face token whole i) unheld))) h.policy h.pending h.alive
              (missed answer new h)

-- Let an Interest for Data not loop, let neither the cache nor the repository answer the Interest,
-- and let the strategy's choice be carried out. Then the Interest was handled.
pub forwards_handled : (old passed new : State) (was : NodeState) (before after : List Send) (moment face : ℕ) (token : Token) (whole : List ℕ) (i : PlainInterest)
    → IfSome token IsToken → IsLater (state_of old) moment was → request_of (state_of old).policy face i ≡ ForData
    → loops (records_at was.pending (key_of i)) face i.nonce ≡ false
    → state_of passed ≡ record was { cache = passed.tables.store }
    → Finds (key_of i) was.policy.now was.cache None passed.tables.store
    → served i.name i.can_be_prefix was.policy.held.objects ≡ None
    → (r : Result code.Verdict Memory) → IfOk r (ForwardsBy passed new before after face token whole i (choice_from (state_of passed) face i))
    → IfOk r (IsHandled old new before after face token moment (AnInterest whole i))
forwards_handled old passed new was before after moment face token whole i tok later is once same none unheld (Err memory) h = tt
forwards_handled old passed new was before after moment face token whole i tok later is once same none unheld (Ok verdict) (sends, sent, h) = (
  was,
  sends,
  sent,
  later,
  forward_answered (state_of old) was moment face token whole i tok later is once passed.tables.store none unheld (record { verdict = verdict_of verdict; sends = sends }) (state_of new)
      (subst (λ (s : NodeState). IsForwarded s face token whole i (choice_from s face i) (record { verdict = verdict_of verdict; sends = sends }) (state_of new)) same h),
)

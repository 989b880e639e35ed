-- Let a node agree with a run that starts from a policy with the time 0. After a step of the node,
-- `MayHold` is true of each Data in the cache.
use Rattle.std.proofs.Common.{◌≡◌, ℕ, List, ◌∷◌, get_or, refl, sym, ap, subst, ◌∙◌, inl, inr}
use Rattle.std.specs.Prelude.{◌⊎◌, Option, Some, None, max, not}
use Rattle.std.specs.List.{All, Contains}
use Rattle.std.specs.Ordering.{eq_by_cmp}
use Rattle.std.proofs.lemmas.List.Elements.{All-cons, All-filter, All-take, All-weaker}
use Rattle.ndn_tlv.specs.Element.{Field}
use Rattle.ndn_names.specs.Name.{IsPrefix}
use Rattle.ndn_names.specs.Order.{name_cmp}
use Rattle.ndn_packets.specs.Key.{PlainKey}
use Rattle.pit_fib.specs.Records.{Pending}
use Rattle.content_store.specs.Store.{CachedData, StoreState, Finds, Erases as IsErased, full_name_of, with_used, without}
use Rattle.content_store.proofs.Losses.{loses_some-contained}
use Rattle.forwarder.specs.Event.{PlainEvent, moment}
use Rattle.forwarder.specs.Verdict.{Answer}
use Rattle.forwarder.specs.Policy.{Policy, at_moment}
use Rattle.forwarder.specs.Outcome.{outcome_of}
use Rattle.forwarder.specs.Cache.{CacheAfter, CacheUse, Untouched, LooksUp, Inserts, Erases, IsAwaited, TakesAway, cache_use}
use Rattle.forwarder.specs.Node.{NodeState, IsStep}
use Rattle.forwarder.specs.Runs.{Run, Then, MayHold, Stands, now_of}
use Rattle.forwarder.proofs.RunSteps.{is_waiting, now_is}

-- ---- properties of all Data in a cache

all_contained : (P : CachedData → Type 0) (cs : List CachedData) (c : CachedData) → All P cs → Contains cs c → P c
all_contained P cs c h at = subst P at.2 (h at.0 c at.1)

pub all_forgotten : (P : CachedData → Type 0) (old new : List CachedData) → All P old → All (λ c. Contains old c) new → All P new
all_forgotten P old new h kept = All-weaker (λ c. Contains old c) P (λ c at. all_contained P old c h at) new kept

all_front : (P : CachedData → Type 0) (c : CachedData) (cs : List CachedData) → P c → All P cs → All P (c ∷ without (full_name_of c) cs)
all_front P c cs p h = All-cons P c _ p (All-filter (λ d. not (eq_by_cmp name_cmp (full_name_of d) (full_name_of c))) P cs h)

-- ---- one use of the cache

module _ (now : ℕ) (waiting : Pending) (old new : StoreState) (K K' : CachedData → Type 0) (held : All K old.cached) where
  module _ (keep : (c : CachedData) → K c → K' c) where
    unchanged : new ≡ old → All K' new.cached
    unchanged e = subst (λ (s : StoreState). All K' s.cached) (sym e) (All-weaker K K' keep old.cached held)

    found : (key : PlainKey) (given : Option (List ℕ)) → Finds key now old given new → All K' new.cached
    found key None h = unchanged h.1
    found key (Some octets) h =
        subst (λ (s : StoreState). All K' s.cached) (sym h.3)
        (All-weaker K K' keep (with_used old h.0).cached (all_front K h.0 old.cached (all_contained K old.cached h.0 held h.1.is_cached) held))

    inserted : (c : CachedData) → (IsAwaited waiting c → K' c) → CacheAfter now waiting (Inserts c) old new → All K' new.cached
    inserted c arrives (inl (awaited, inl e)) =
        subst (λ (s : StoreState). All K' s.cached) (sym e)
        (All-take K' old.capacity (c ∷ without (full_name_of c) old.cached) (all_front K' c old.cached (arrives awaited) (All-weaker K K' keep old.cached held)))
    inserted c arrives (inl (awaited, inr f)) = all_forgotten K' old.cached new.cached (All-weaker K K' keep old.cached held) (loses_some-contained old.cached new.cached f.0)
    inserted c arrives (inr (other, e)) = unchanged e

  -- Let `K'` follow from `K` for each Data that an erase may leave. With a count, an erase may
  -- leave any Data. Without a count, an erase may leave only Data whose full names do not begin
  -- with `name`. Then each Data that remains after the erase has the property `K'`.
  erased : (name : List Field) (count : Option ℕ) (gone : ℕ) → ((c : CachedData) → K c → ¬ ((count ≡ None) × IsPrefix name (full_name_of c)) → K' c)
      → IsErased name count old.cached new.cached gone → All K' new.cached
  erased name count gone keep h = by_count h.2
    where
      left : All K new.cached
      left = subst (All K) (sym h.0.left) (All-filter h.0.stays K old.cached held)

      by_count : ((count ≡ Some gone) ⊎ All (λ (d : CachedData). ¬ IsPrefix name (full_name_of d)) new.cached) → All K' new.cached
      by_count (inl e) = All-weaker K K' (λ c k. keep c k (λ t. let f = t.0 in cc (e, f))) new.cached left
      by_count (inr all) = λ at d lt. let x = get_or new.cached at d in keep x (left at d lt) (λ t. all at d lt t.1)

  use_held : (used : CacheUse) → ((c : CachedData) → K c → ¬ TakesAway used c → K' c) → ((c : CachedData) → used ≡ Inserts c → IsAwaited waiting c → K' c)
      → CacheAfter now waiting used old new → All K' new.cached
  use_held Untouched keep bring h = unchanged (λ c k. keep c k (λ t. t)) h
  use_held (LooksUp key) keep bring h = found (λ c k. keep c k (λ t. t)) key h.0 h.1
  use_held (Inserts c) keep bring h = inserted (λ c k. keep c k (λ t. t)) c (bring c refl) h
  use_held (Erases name count) keep bring h = erased name count h.0.0 keep h.0.1

-- ---- the cache after one step of a run

pub cache_held : (first : Policy) (past : Run) (old new : NodeState) (event : PlainEvent) (answer : Answer) → first.now ≡ 0 → Stands first past old → IsStep old event answer new
    → All (MayHold (Then past event answer)) new.cache.cached
cache_held first past old new event answer zero stands step =
    let p = at_moment old.policy (moment event) in
    let used = cache_use p.now (outcome_of event answer.verdict) in
    let same : used ≡ cache_use (max (now_of past) (moment event)) (outcome_of event answer.verdict) =
    ap (λ (n : ℕ). cache_use n (outcome_of event answer.verdict)) (now_is first past old new event answer zero stands step) in
    use_held p.now step.waiting old.cache new.cache (MayHold past) (MayHold (Then past event answer)) stands.cache used
    (λ c k never. inr (k, subst (λ (u : CacheUse). ¬ TakesAway u c) same never))
    (λ c is awaited. inl (sym same ∙ is, (step.waiting, is_waiting first past old new event answer zero stands step, awaited)))
    step.cache

-- A step keeps the cache within its capacity, with each Data once and as it was received.
use Rattle.std.proofs.Common.{◌≡◌, ◌≢◌, ℕ, zero, suc, ◌+◌, ◌<◌, ◌≤◌, Bool, true, false, cond, not, List, [], ◌∷◌, length, take, get_or, refl, sym, ap, subst, ◌∙◌, arith, filter, Result, Ok, Err, inl, inr}
use Rattle.std.specs.Prelude.{Option, Some, None, IfOk, OnErr}
use Rattle.std.specs.List.{All, AllByRecursion, Contains}
use Rattle.std.specs.Cmp.{Equal-is}
use Rattle.std.specs.Ordering.{eq_by_cmp}
use Rattle.std.proofs.lemmas.Cmp.{tied_itself}
use Rattle.std.proofs.lemmas.List.{length-take}
use Rattle.std.proofs.lemmas.List.Elements.{All-cons, All-contains, All-filter, All-take}
use Rattle.ndn_tlv.specs.declared.memory.Memory.{Memory}
use Rattle.ndn_names.specs.Key.{name_cmp-total}
use Rattle.ndn_names.specs.Order.{name_cmp}
use Rattle.ndn_packets.specs.FrameReading.{frame_at}
use Rattle.ndn_packets.specs.Key.{PlainKey}
use Rattle.ndn_packets.specs.Packet.{AData}
use Rattle.ndn_packets.proofs.Packets.{frame_found}
use Rattle.pit_fib.specs.Records.{Pending}
use Rattle.content_store.specs.Store.{CachedData, EachOnce, Finds, IsCachedData, IsStore, StoreState, full_name_of, with_cached, with_used, without}
use Rattle.forwarder.specs.declared.verdict.Verdict as code
use Rattle.forwarder.specs.Event.{PlainEvent, Packet, FaceUp, FaceDown, Tick, NewRules, Send, moment}
use Rattle.forwarder.specs.Verdict.{Answer, Verdict, verdict_of}
use Rattle.forwarder.specs.Policy.{at_moment}
use Rattle.forwarder.specs.Outcome.{outcome_of}
use Rattle.forwarder.specs.Cache.{CacheAfter, CacheUse, Untouched, LooksUp, Inserts, Erases, MayForget, cache_use, held_from}
use Rattle.forwarder.specs.DataSends.{BringsOctets}
use Rattle.forwarder.specs.Node.{IsStep, NodeState}
use Rattle.forwarder.proofs.Handled.{StepsBy}
use Rattle.forwarder.proofs.Uses.{closing_inserts, read_inserts}

-- ---- parts of a list of cached Data

all_filtered : (P : CachedData → Type 0) (stays : CachedData → Bool) (cs : List CachedData) → AllByRecursion P cs → AllByRecursion P (filter stays cs)
all_filtered P stays [] all = tt
all_filtered P stays (c ∷ cs) all = by_test (stays c) (all_filtered P stays cs all.1)
  where
    by_test : (b : Bool) → AllByRecursion P (filter stays cs) → AllByRecursion P (cond b (c ∷ filter stays cs) (filter stays cs))
    by_test true rest = (all.0, rest)
    by_test false rest = rest

once_filtered : (stays : CachedData → Bool) (cs : List CachedData) → EachOnce cs → EachOnce (filter stays cs)
once_filtered stays [] once = tt
once_filtered stays (c ∷ cs) once = by_test (stays c) (once_filtered stays cs once.1)
  where
    by_test : (b : Bool) → EachOnce (filter stays cs) → EachOnce (cond b (c ∷ filter stays cs) (filter stays cs))
    by_test true rest = (all_filtered (λ (d : CachedData). full_name_of c ≢ full_name_of d) stays cs once.0, rest)
    by_test false rest = rest

few_filtered : (stays : CachedData → Bool) (cs : List CachedData) → length (filter stays cs) ≤ length cs
few_filtered stays [] = omega arith
few_filtered stays (c ∷ cs) = by_test (stays c) (few_filtered stays cs)
  where
    by_test : (b : Bool) → length (filter stays cs) ≤ length cs → length (cond b (c ∷ filter stays cs) (filter stays cs)) ≤ length (c ∷ cs)
    by_test true le = omega (arith, le)
    by_test false le = omega (arith, le)

all_taken : (P : CachedData → Type 0) (n : ℕ) (cs : List CachedData) → AllByRecursion P cs → AllByRecursion P (take n cs)
all_taken P zero cs all = tt
all_taken P (suc n) [] all = tt
all_taken P (suc n) (c ∷ cs) all = (all.0, all_taken P n cs all.1)

once_taken : (n : ℕ) (cs : List CachedData) → EachOnce cs → EachOnce (take n cs)
once_taken zero cs once = tt
once_taken (suc n) [] once = tt
once_taken (suc n) (c ∷ cs) once = (all_taken (λ (d : CachedData). full_name_of c ≢ full_name_of d) n cs once.0, once_taken n cs once.1)

-- ---- a Data in front of the Data with other full names

abbrev differs : CachedData → CachedData → Bool
differs c d = not (eq_by_cmp name_cmp (full_name_of d) (full_name_of c))

same_name : (c d : CachedData) → full_name_of c ≡ full_name_of d → differs c d ≡ false
same_name c d e =
    let tie : eq_by_cmp name_cmp (full_name_of d) (full_name_of c) ≡ true =
    (Equal-is (name_cmp (full_name_of d) (full_name_of c))).1 (ap (name_cmp (full_name_of d)) e ∙ tied_itself name_cmp-total (full_name_of d)) in
    ap not tie

others_differ : (c : CachedData) (cs : List CachedData) → AllByRecursion (λ d. full_name_of c ≢ full_name_of d) (filter (differs c) cs)
others_differ c [] = tt
others_differ c (d ∷ cs) = by_test (differs c d) refl (others_differ c cs)
  where
    by_test : (b : Bool) → differs c d ≡ b → AllByRecursion (λ e. full_name_of c ≢ full_name_of e) (filter (differs c) cs)
        → AllByRecursion (λ e. full_name_of c ≢ full_name_of e) (cond b (d ∷ filter (differs c) cs) (filter (differs c) cs))
    by_test true is rest = ((λ e. let no = same_name c d e in cc (is, no)), rest)
    by_test false is rest = rest

once_in_front : (c : CachedData) (cs : List CachedData) → EachOnce cs → EachOnce (c ∷ without (full_name_of c) cs)
once_in_front c cs once = (others_differ c cs, once_filtered (differs c) cs once)

fewer : (c : CachedData) (cs : List CachedData) (k : ℕ) → k < length cs → get_or cs k c ≡ c → length (filter (differs c) cs) + 1 ≤ length cs
fewer c [] k low at = absurd (omega (arith, low))
fewer c (d ∷ cs) zero low at =
    let rest = few_filtered (differs c) cs in
    subst (λ (b : Bool). length (cond b (d ∷ filter (differs c) cs) (filter (differs c) cs)) + 1 ≤ length (d ∷ cs)) (sym (same_name c d (ap full_name_of (sym at)))) (omega (arith, rest))
fewer c (d ∷ cs) (suc k) low at = by_test (differs c d) (fewer c cs k (omega (arith, low)) at)
  where
    by_test : (b : Bool) → length (filter (differs c) cs) + 1 ≤ length cs → length (cond b (d ∷ filter (differs c) cs) (filter (differs c) cs)) + 1 ≤ length (d ∷ cs)
    by_test true le = omega (arith, le)
    by_test false le = omega (arith, le)

-- ---- one use of the cache

module _ (old : StoreState) (is : IsStore old) where
  lost_store : (new : StoreState) → MayForget old new → IsStore new
  lost_store new (lost, same) =
      let few : length new.cached ≤ length old.cached = subst (λ (cs : List CachedData). length cs ≤ length old.cached) (sym lost.left) (few_filtered lost.stays old.cached) in
      record {
        not_none = subst (λ (n : ℕ). 1 ≤ n) (sym same) is.not_none;
        at_most_65536 = subst (λ (n : ℕ). n ≤ 65536) (sym same) is.at_most_65536;
        within_capacity = (let within = is.within_capacity in omega (arith, few, within, same));
        each_once = subst EachOnce (sym lost.left) (once_filtered lost.stays old.cached is.each_once);
        each_data = subst (All IsCachedData) (sym lost.left) (All-filter lost.stays IsCachedData old.cached is.each_data);
      }

  used_store : (c : CachedData) → Contains old.cached c → IsStore (with_used old c)
  used_store c at = record {
    not_none = is.not_none;
    at_most_65536 = is.at_most_65536;
    within_capacity = (let within = is.within_capacity in let less = fewer c old.cached at.0 at.1 at.2 in omega (arith, within, less));
    each_once = once_in_front c old.cached is.each_once;
    each_data = All-cons IsCachedData c _ (All-contains IsCachedData old.cached c is.each_data at) (All-filter (differs c) IsCachedData old.cached is.each_data);
  }

  cached_store : (c : CachedData) → IsCachedData c → IsStore (with_cached old c)
  cached_store c data' =
      let all = c ∷ without (full_name_of c) old.cached in
      record {
        not_none = is.not_none;
        at_most_65536 = is.at_most_65536;
        within_capacity = omega (arith, length-take old.capacity all);
        each_once = once_taken old.capacity all (once_in_front c old.cached is.each_once);
        each_data = All-take IsCachedData old.capacity all (All-cons IsCachedData c _ data' (All-filter (differs c) IsCachedData old.cached is.each_data));
      }

  found_store : (now : ℕ) (key : PlainKey) (given : Option (List ℕ)) (new : StoreState) → Finds key now old given new → IsStore new
  found_store now key None new h = subst IsStore (sym h.1) is
  found_store now key (Some octets) new h = subst IsStore (sym h.3) (used_store h.0 h.1.is_cached)

  use_store : (now : ℕ) (waiting : Pending) (used : CacheUse) (new : StoreState) → ((c : CachedData) → used ≡ Inserts c → IsCachedData c) → CacheAfter now waiting used old new → IsStore new
  use_store now waiting Untouched new brings h = subst IsStore (sym h) is
  use_store now waiting (LooksUp key) new brings h = found_store now key h.0 new h.1
  use_store now waiting (Inserts c) new brings (inl (awaited, inl e)) = subst IsStore (sym e) (cached_store c (brings c refl))
  use_store now waiting (Inserts c) new brings (inl (awaited, inr lost)) = lost_store new lost
  use_store now waiting (Inserts c) new brings (inr (other, e)) = subst IsStore (sym e) is
  use_store now waiting (Erases name count) new brings h = lost_store new (record { stays = h.0.1.0.stays; left = h.0.1.0.left }, h.1)

-- ---- one step

-- a Data that an event offers to the cache is as it was received
brings_data : (now : ℕ) (event : PlainEvent) (v : Verdict) (c : CachedData) → BringsOctets event → cache_use now (outcome_of event v) ≡ Inserts c → IsCachedData c
brings_data now (Packet face at octets) v c fits e =
    let came = read_inserts now face (frame_at octets) v c e in
    let held : IsCachedData (held_from now came.0 came.1) =
    record { packet = came.1; read = (frame_found octets (AData came.0 came.1) fits came.3).1.0; name = refl; digest = refl; freshness = refl } in
    subst IsCachedData (sym came.2) held
brings_data now (FaceUp face scope at) v c fits e = cc e
brings_data now (FaceDown face at) v c fits e = absurd (closing_inserts now face v c e)
brings_data now (Tick at) v c fits e = cc e
brings_data now (NewRules rules keys at) v c fits e = cc e

pub step_store : (old new : NodeState) (event : PlainEvent) (answer : Answer) → BringsOctets event → IsStore old.cache → IsStep old event answer new → IsStore new.cache
step_store old new event answer fits is step =
    let now = (at_moment old.policy (moment event)).now in
    use_store old.cache is now step.waiting (cache_use now (outcome_of event answer.verdict)) new.cache (λ c e. brings_data now event answer.verdict c fits e) step.cache

pub store_after : (old new : NodeState) (before after : List Send) (event : PlainEvent) (r : Result code.Verdict Memory) → BringsOctets event → IsStore old.cache
    → IfOk r (StepsBy old new before after event) → OnErr r ((new ≡ old) × (after ≡ before)) → IsStore new.cache
store_after old new before after event (Ok verdict) fits is (sends, same, step) none = step_store old new event (record { verdict = verdict_of verdict; sends = sends }) fits is step
store_after old new before after event (Err memory) fits is none (same, sent) = subst (λ (n : NodeState). IsStore n.cache) (sym same) is

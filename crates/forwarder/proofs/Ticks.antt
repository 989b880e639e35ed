-- Let no key book in a valid run have two keys of the same name. If some denied events are replaced
-- by ticks at the moments of these events, the run is still valid and leads to the same policy.
use Rattle.std.proofs.Common.{◌≡◌, ℕ, true, List, refl, sym, ap, subst, ◌∙◌, inl, inr}
use Rattle.std.specs.Prelude.{[], Option, Some, None, max, nat_le}
use Rattle.std.specs.FinMap as map
use Rattle.ndn_packets.specs.Key.{PlainKey}
use Rattle.pit_fib.specs.declared.pit.TheConstants.{MAX_PENDING}
use Rattle.pit_fib.specs.Cause.{Expires, records_after}
use Rattle.pit_fib.specs.Records.{Records, Pending, records_at}
use Rattle.content_store.specs.Store.{CachedData}
use Rattle.forwarder.specs.Event.{PlainEvent, Tick, token_in}
use Rattle.forwarder.specs.Event.{moment}
use Rattle.forwarder.specs.Verdict.{Answer, passed}
use Rattle.forwarder.specs.Policy.{Policy, at_moment}
use Rattle.forwarder.specs.Effects.{IsAfter}
use Rattle.forwarder.specs.Replies.{Replies}
use Rattle.forwarder.specs.Causes.{after_causes, causes_by}
use Rattle.forwarder.specs.Outcome.{Outcome, outcome_of}
use Rattle.forwarder.specs.Cache.{TakesAway, cache_use}
use Rattle.forwarder.specs.Runs.{Run, Start, Then, HasTicksForDenied, IsPolicyOf, IsRun, IsWaiting, KeysAreApart, MayCache, MayHold, MayReply, is_denied, now_of, records_of, seen_after}
use Rattle.forwarder.proofs.LaterMoments.{policy_apart}
use Rattle.forwarder.proofs.Histories.{one_history, one_policy}
use Rattle.forwarder.proofs.Denials.{denied_effect}
use Rattle.forwarder.proofs.PastRecords.{next_records, records_then}
use Rattle.forwarder.proofs.Uses.{denied_outcome}
use Rattle.forwarder.proofs.RunSteps.{more_replies}

now_ticks : (past other : Run) → HasTicksForDenied past other → now_of other ≡ now_of past
now_ticks Start Start t = refl
now_ticks Start (Then other another reply) t = absurd t
now_ticks (Then before event answer) Start t = absurd t
now_ticks (Then before event answer) (Then other another reply) (t, inl (e, a)) =
    let n = now_ticks before other t in
    ap (λ (k : ℕ). max k (moment another)) n ∙ ap (λ (x : PlainEvent). max (now_of before) (moment x)) e
now_ticks (Then before event answer) (Then other another reply) (t, inr (d, e, a)) =
    let n = now_ticks before other t in
    ap (λ (k : ℕ). max k (moment another)) n ∙ ap (λ (x : PlainEvent). max (now_of before) (moment x)) e

idle_records : (now : ℕ) (event : PlainEvent) (answer : Answer) (key : PlainKey) (r : Records) → is_denied answer.verdict ≡ true
    → next_records now event answer key r ≡ records_after (Expires now) key r
idle_records now event answer key r d = ap (λ (o : Outcome). after_causes (causes_by now (token_in event) answer.sends o) key (records_after (Expires now) key r)) (denied_outcome event answer.verdict d)

records_ticks : (past other : Run) → HasTicksForDenied past other → (key : PlainKey) → records_of other key ≡ records_of past key
records_ticks Start Start t key = refl
records_ticks Start (Then other another reply) t key = absurd t
records_ticks (Then before event answer) Start t key = absurd t
records_ticks (Then before event answer) (Then other another reply) (t, inl (e, a)) key =
    let n = now_ticks before other t in
    let r = records_ticks before other t key in
    sym (records_then other another reply key)
    ∙ ap (λ (k : ℕ). next_records (max k (moment another)) another reply key (records_of other key)) n
    ∙ ap (λ (q : Records). next_records (max (now_of before) (moment another)) another reply key q) r
    ∙ ap (λ (x : PlainEvent). next_records (max (now_of before) (moment x)) x reply key (records_of before key)) e
    ∙ ap (λ (x : Answer). next_records (max (now_of before) (moment event)) event x key (records_of before key)) a
    ∙ records_then before event answer key
records_ticks (Then before event answer) (Then other another reply) (t, inr (d, e, a)) key =
    let n = now_ticks before other t in
    let r = records_ticks before other t key in
    sym (records_then other another reply key)
    ∙ ap (λ (k : ℕ). next_records (max k (moment another)) another reply key (records_of other key)) n
    ∙ ap (λ (q : Records). next_records (max (now_of before) (moment another)) another reply key q) r
    ∙ ap (λ (x : PlainEvent). next_records (max (now_of before) (moment x)) x reply key (records_of before key)) e
    ∙ sym (idle_records (max (now_of before) (moment event)) event answer key (records_of before key) d)
    ∙ records_then before event answer key

-- once time has advanced to the same moment after each run, both runs have the same records
waiting_ticks : (past other : Run) → HasTicksForDenied past other → (now : ℕ) (waiting : Pending) → IsWaiting past now waiting → IsWaiting other now waiting
waiting_ticks past other t now waiting w = record {
  living = w.living;
  records = λ key. w.records key ∙ ap (λ (r : Records). records_after (Expires now) key r) (sym (records_ticks past other t key));
}

held_ticks : (past other : Run) → HasTicksForDenied past other → (c : CachedData) → MayHold past c → MayHold other c
held_ticks Start Start t c h = absurd h
held_ticks Start (Then other another reply) t c h = absurd t
held_ticks (Then before event answer) Start t c h = absurd t
held_ticks (Then before event answer) (Then other another reply) (t, inl (e, a)) c (inl (used, (waiting, w, awaited))) =
    let now = max (now_of before) (moment event) in
    let n : max (now_of other) (moment event) ≡ now = ap (λ (k : ℕ). max k (moment event)) (now_ticks before other t) in
    let v = waiting_ticks before other t now waiting w in
    subst (λ (x : PlainEvent). MayHold (Then other x reply) c) (sym e) (subst (λ (x : Answer). MayHold (Then other event x) c) (sym a)
    (inl (ap (λ (k : ℕ). cache_use k (outcome_of event answer.verdict)) n ∙ used, (waiting, subst (λ (k : ℕ). IsWaiting other k waiting) (sym n) v, awaited))))
held_ticks (Then before event answer) (Then other another reply) (t, inl (e, a)) c (inr (h, stays)) =
    let now = max (now_of before) (moment event) in
    let n : max (now_of other) (moment event) ≡ now = ap (λ (k : ℕ). max k (moment event)) (now_ticks before other t) in
    subst (λ (x : PlainEvent). MayHold (Then other x reply) c) (sym e) (subst (λ (x : Answer). MayHold (Then other event x) c) (sym a)
    (inr (held_ticks before other t c h, subst (λ (k : ℕ). ¬ TakesAway (cache_use k (outcome_of event answer.verdict)) c) (sym n) stays)))
held_ticks (Then before event answer) (Then other another reply) (t, inr (d, e, a)) c (inl (used, waits)) =
    let now = max (now_of before) (moment event) in
    let none = ap (cache_use now) (denied_outcome event answer.verdict d) in cc (used, none)
held_ticks (Then before event answer) (Then other another reply) (t, inr (d, e, a)) c (inr (h, stays)) =
    subst (λ (x : PlainEvent). MayHold (Then other x reply) c) (sym e) (inr (held_ticks before other t c h, λ takes. takes))

-- if no key book has two keys of the same name, a denied event leads to the same policy as a tick
-- at the event's moment
denied_after : (first : Policy) (before : Run) (event : PlainEvent) (answer : Answer) (was p : Policy) → KeysAreApart first before → MayReply first before event answer
    → is_denied answer.verdict ≡ true → IsPolicyOf first before was → IsAfter was event p → IsAfter was (Tick (moment event)) p
denied_after first before event answer was p apart reply d is after =
    let e : reply.was ≡ was = one_policy first reply.was was before before apart (one_history before) reply.is_policy is in
    let q = at_moment was (moment event) in
    let keys = policy_apart first before was apart is in
    let replies : Replies (seen_after before q reply.waiting) event answer =
    subst (λ (w : Policy). Replies (seen_after before (at_moment w (moment event)) reply.waiting) event answer) e reply.replies in
    denied_effect q (records_at reply.waiting) (nat_le MAX_PENDING (map.len reply.waiting)) (MayCache before q.now) keys answer d event replies p after

pub policy_ticks : (first : Policy) (past other : Run) → KeysAreApart first past → IsRun first past → HasTicksForDenied past other → (p : Policy) → IsPolicyOf first past p → IsPolicyOf first other p
policy_ticks first Start Start apart is t p h = h
policy_ticks first Start (Then other another reply) apart is t p h = absurd t
policy_ticks first (Then before event answer) Start apart is t p h = absurd t
policy_ticks first (Then before event answer) (Then other another reply) apart is (t, inl (e, a)) p h =
    (h.0, policy_ticks first before other apart.0 is.0 t h.0 h.1, subst (λ (x : PlainEvent). IsAfter h.0 x p) (sym e) h.2)
policy_ticks first (Then before event answer) (Then other another reply) apart is (t, inr (d, e, a)) p h =
    let after = denied_after first before event answer h.0 p apart.0 is.1 d h.1 h.2 in
    (h.0, policy_ticks first before other apart.0 is.0 t h.0 h.1, subst (λ (x : PlainEvent). IsAfter h.0 x p) (sym e) after)

-- what the cache may give after the first run, it may also give after the second run
given_ticks : (past other : Run) → HasTicksForDenied past other → (now : ℕ) (key : PlainKey) (given : Option (List ℕ)) → MayCache past now key given → MayCache other now key given
given_ticks past other t now key None h = tt
given_ticks past other t now key (Some octets) h = (h.0, held_ticks past other t h.0 h.1, h.2, h.3)

reply_ticks : (first : Policy) (past other : Run) (event : PlainEvent) (answer : Answer) → KeysAreApart first past → IsRun first past → HasTicksForDenied past other
    → MayReply first past event answer → MayReply first other event answer
reply_ticks first past other event answer apart is t h =
    let p = at_moment h.was (moment event) in
    let n : max (now_of other) (moment event) ≡ max (now_of past) (moment event) = ap (λ (k : ℕ). max k (moment event)) (now_ticks past other t) in
    record {
      was = h.was;
      is_policy = policy_ticks first past other apart is t h.was h.is_policy;
      waiting = h.waiting;
      is_waiting = subst (λ (k : ℕ). IsWaiting other k h.waiting) (sym n) (waiting_ticks past other t (max (now_of past) (moment event)) h.waiting h.is_waiting);
      replies = more_replies p (records_at h.waiting) (nat_le MAX_PENDING (map.len h.waiting)) (MayCache past p.now) (MayCache other p.now) (given_ticks past other t p.now) event answer h.replies;
    }

tick_reply : (first : Policy) (past other : Run) (event : PlainEvent) (answer : Answer) → KeysAreApart first past → IsRun first past → HasTicksForDenied past other
    → MayReply first past event answer → MayReply first other (Tick (moment event)) (passed [])
tick_reply first past other event answer apart is t h =
    let n : max (now_of other) (moment event) ≡ max (now_of past) (moment event) = ap (λ (k : ℕ). max k (moment event)) (now_ticks past other t) in
    record {
      was = h.was;
      is_policy = policy_ticks first past other apart is t h.was h.is_policy;
      waiting = h.waiting;
      is_waiting = subst (λ (k : ℕ). IsWaiting other k h.waiting) (sym n) (waiting_ticks past other t (max (now_of past) (moment event)) h.waiting h.is_waiting);
      replies = refl;
    }

pub run_ticks : (first : Policy) (past other : Run) → KeysAreApart first past → IsRun first past → HasTicksForDenied past other → IsRun first other
run_ticks first Start Start apart is t = tt
run_ticks first Start (Then other another reply) apart is t = absurd t
run_ticks first (Then before event answer) Start apart is t = absurd t
run_ticks first (Then before event answer) (Then other another reply) apart is (t, inl (e, a)) = (
  run_ticks first before other apart.0 is.0 t,
  subst (λ (x : PlainEvent). MayReply first other x reply) (sym e) (subst (λ (x : Answer). MayReply first other event x) (sym a)
      (reply_ticks first before other event answer apart.0 is.0 t is.1)),
)
run_ticks first (Then before event answer) (Then other another reply) apart is (t, inr (d, e, a)) = (
  run_ticks first before other apart.0 is.0 t,
  subst (λ (x : PlainEvent). MayReply first other x reply) (sym e) (subst (λ (x : Answer). MayReply first other (Tick (moment event)) x) (sym a)
      (tick_reply first before other event answer apart.0 is.0 t is.1)),
)

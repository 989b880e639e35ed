-- The window is halved once for the segments of a window.
use Rattle.std.proofs.Common.{◌≡◌, ◌≤◌, ◌+◌, ◌-◌, ◌==◌, ◌&&◌, ◌||◌, ◌⊎◌, ℕ, suc, Bool, true, false, not, List, [], ◌∷◌, length, Some, None, refl, sym, ap, ◌∙◌, arith, inl, inr, if◌then◌else◌}
use Rattle.std.specs.Prelude.{Option, nat_lt, nat_le, option_map, slice_get, slice_set, take}
use Rattle.std.specs.List.{list_any}
use Rattle.std.proofs.lemmas.Bool.{eq-eqb, eqb-true, lt-ltb, le-ltb, ltb-true, ltb-false, both_ways}
use Rattle.interest_pipeline.specs.declared.place.Sending.{Sending}
use Rattle.interest_pipeline.specs.declared.place.Place.{Place}
use Rattle.interest_pipeline.specs.declared.place.Place.TheVariants.{Answered, InFlight, Lost}
use Rattle.interest_pipeline.specs.Rtt.{backed_off}
use Rattle.interest_pipeline.specs.Places.{expire, slows, spare}
use Rattle.interest_pipeline.specs.Flight.{FlightState, answered, ended, place_of, with_places}
use Rattle.interest_pipeline.specs.Pipeline.{PipelineState, after_expire, answering, choice, losing, sending_at, sent, slowed, start, with_answer, with_expired, with_loss}
use Rattle.interest_pipeline.specs.Runs.{Call, Next, Answer, Loss, Expire, Last, IsInFlight, IsLost, after, counts, halves, is_number, sendings_of, sends, state_after}
use Rattle.interest_pipeline.proofs.Picking.{chosen, picked}
use Rattle.interest_pipeline.proofs.Placing.{HasPlace, at, at-below, at-take, at-take_past, in_flight_has_place, lost_has_place, place_of-index, place_of-map, place_of-push_other, place_of-set_not, place_of-set_other, place_of-set_own, place_of-advanced}
use Rattle.interest_pipeline.proofs.Sound.{grown_above, sound}

-- ---- other calls do not lower the window

sent_window : (o : Option ℕ) (s : PipelineState) (now : ℕ) → s.window.cwnd ≤ (sent o s now).window.cwnd
sent_window None s now = omega arith
sent_window (Some i) s now = omega arith

answer_window : (limit : ℕ) (s : PipelineState) (n now : ℕ) (p : Option Place) → s.window.cwnd ≤ (with_answer s n now (record { moment = 0; deadline = 0; left = 0; spared = false })).window.cwnd
    → s.window.cwnd ≤ (answering p s n now).window.cwnd
answer_window limit s n now None h = omega arith
answer_window limit s n now (Some Answered) h = omega arith
answer_window limit s n now (Some (InFlight x)) h = h
answer_window limit s n now (Some (Lost x)) h = h

loss_window : (s : PipelineState) (n : ℕ) (p : Option Place) → counts p ≡ false → s.window.cwnd ≤ (losing p s n).window.cwnd
loss_window s n None e = omega arith
loss_window s n (Some Answered) e = omega arith
loss_window s n (Some (Lost x)) e = omega arith
loss_window s n (Some (InFlight x)) e = by x.spared e
  where
    by : (b : Bool) → not b ≡ false → s.window.cwnd ≤ (if b then with_loss s n x else slowed (with_loss s n x)).window.cwnd
    by true e = omega arith
    by false e = absurd cc

pub not_lower : (limit retries : ℕ) (calls : List Call) (call : Call) → let s = state_after (start limit retries) calls in
    halves s call ≡ false → s.window.cwnd ≤ (after s call).window.cwnd
not_lower limit retries calls (Next now) e = let s = state_after (start limit retries) calls in sent_window (choice s) s now
not_lower limit retries calls (Answer n now) e =
    let s = state_after (start limit retries) calls in
    answer_window limit s n now (place_of s.flight n) (grown_above limit s.window (sound limit retries calls).window)
not_lower limit retries calls (Loss n) e = let s = state_after (start limit retries) calls in loss_window s n (place_of s.flight n) e
not_lower limit retries calls (Expire now) e =
    let s = state_after (start limit retries) calls in
    rw e (let same : s.window.cwnd ≤ s.window.cwnd = omega arith in same)
not_lower limit retries calls (Last n) e = omega arith

-- ---- after a halving, no loss of a segment in flight counts

spared_counts : (p : Option Place) → counts (option_map spare p) ≡ false
spared_counts None = refl
spared_counts (Some Answered) = refl
spared_counts (Some (InFlight x)) = refl
spared_counts (Some (Lost x)) = refl

slowed_counts : (s : PipelineState) (n : ℕ) → counts (place_of (slowed s).flight n) ≡ false
slowed_counts s n = ap counts (place_of-map spare s.flight n refl) ∙ spared_counts (place_of s.flight n)

loss_counts : (s : PipelineState) (m n : ℕ) (p : Option Place) → counts p ≡ true → counts (place_of (losing p s m).flight n) ≡ false
loss_counts s m n None e = absurd cc
loss_counts s m n (Some Answered) e = absurd cc
loss_counts s m n (Some (Lost x)) e = absurd cc
loss_counts s m n (Some (InFlight x)) e = by x.spared e
  where
    by : (b : Bool) → not b ≡ true → counts (place_of (if b then with_loss s m x else slowed (with_loss s m x)).flight n) ≡ false
    by true e = absurd cc
    by false e = slowed_counts (with_loss s m x) n

expire_counts : (s : PipelineState) (now n : ℕ) → list_any (slows now) s.flight.places ≡ true → counts (place_of (after_expire s now).flight n) ≡ false
expire_counts s now n e = rw e (slowed_counts (with_expired s now) n)

halved_counts : (s : PipelineState) (call : Call) (n : ℕ) → halves s call ≡ true → counts (place_of (after s call).flight n) ≡ false
halved_counts s (Next now) n e = absurd cc
halved_counts s (Answer m now) n e = absurd cc
halved_counts s (Loss m) n e = loss_counts s m n (place_of s.flight m) e
halved_counts s (Expire now) n e = expire_counts s now n e
halved_counts s (Last m) n e = absurd cc

-- ---- a segment whose loss counts was sent by this call, or counted before it

-- whether a place counts after a change, given whether it did before
abbrev Origin : Bool → Option Place → Option Place → Type 0
Origin sent old new = counts new ≡ true → (sent ≡ true) ⊎ (counts old ≡ true)

same_origin : (b : Bool) (p q : Option Place) → q ≡ p → Origin b p q
same_origin b p q e h = inr (ap counts (sym e) ∙ h)

none_origin : (b : Bool) (p q : Option Place) → counts q ≡ false → Origin b p q
none_origin b p q e h = absurd (both_ways (counts q) e h)

sent_origin : (s : PipelineState) (now n : ℕ) (o : Option ℕ) → choice s ≡ o
    → Origin (is_number (option_map (λ index. s.flight.base + index) o) n) (place_of s.flight n) (place_of (sent o s now).flight n)
sent_origin s now n None e = λ h. inr h
sent_origin s now n (Some i) e = by ((s.flight.base + i) == n) refl
  where
    by : (b : Bool) → ((s.flight.base + i) == n) ≡ b → Origin ((s.flight.base + i) == n) (place_of s.flight n) (place_of (sent (Some i) s now).flight n)
    by true own = λ h. inl own
    by false other =
        let differ : n ≡ s.flight.base + i → ⊥ = λ same. both_ways ((s.flight.base + i) == n) other (eq-eqb (s.flight.base + i) n (sym same)) in
        let c = chosen s i e in
        elim (picked s.flight i c.pick) [
          | (inl (x, within, is)) ↦
              rw (lt-ltb i (length s.flight.places) within)
              (same_origin ((s.flight.base + i) == n) (place_of s.flight n) _ (place_of-set_other s.flight i (InFlight (sending_at s now i)) n differ))
          | (inr new) ↦
              rw (le-ltb i (length s.flight.places) (omega (arith, new.0)))
              (same_origin ((s.flight.base + i) == n) (place_of s.flight n) _ (place_of-push_other s.flight (InFlight (sending_at s now i)) n (λ same. differ (same ∙ ap (λ j. s.flight.base + j) (sym new.0)))))
        ]

-- one place is set to one that does not count
set_origin : (f : FlightState) (m n : ℕ) (p : Place) → HasPlace f m → counts (Some p) ≡ false
    → Origin false (place_of f n) (place_of (with_places f (slice_set f.places (m - f.base) p)) n)
set_origin f m n p has e = by (m == n) refl
  where
    by : (b : Bool) → (m == n) ≡ b → Origin false (place_of f n) (place_of (with_places f (slice_set f.places (m - f.base) p)) n)
    by true own =
        let at_n = ap (place_of (with_places f (slice_set f.places (m - f.base) p))) (sym (eqb-true m n own)) ∙ place_of-set_own f m p has in
        none_origin false (place_of f n) _ (ap counts at_n ∙ e)
    by false other =
        same_origin false (place_of f n) _ (place_of-set_not f m n p has (λ same. both_ways (m == n) other (eq-eqb m n (sym same))))

answered_origin : (f : FlightState) (m n : ℕ) → HasPlace f m → Origin false (place_of f n) (place_of (answered f m) n)
answered_origin f m n has h =
    set_origin f m n Answered has refl (ap counts (sym (place_of-advanced (with_places f (slice_set f.places (m - f.base) Answered)) n)) ∙ h)

answer_origin : (s : PipelineState) (m now n : ℕ) (p : Option Place) → place_of s.flight m ≡ p
    → Origin false (place_of s.flight n) (place_of (answering p s m now).flight n)
answer_origin s m now n None here = λ h. inr h
answer_origin s m now n (Some Answered) here = λ h. inr h
answer_origin s m now n (Some (InFlight x)) here = answered_origin s.flight m n (in_flight_has_place s.flight m x here)
answer_origin s m now n (Some (Lost x)) here = answered_origin s.flight m n (lost_has_place s.flight m x here)

loss_origin : (s : PipelineState) (m n : ℕ) (p : Option Place) → place_of s.flight m ≡ p
    → Origin false (place_of s.flight n) (place_of (losing p s m).flight n)
loss_origin s m n None here = λ h. inr h
loss_origin s m n (Some Answered) here = λ h. inr h
loss_origin s m n (Some (Lost x)) here = λ h. inr h
loss_origin s m n (Some (InFlight x)) here = by x.spared
  where
    by : (b : Bool) → Origin false (place_of s.flight n) (place_of (if b then with_loss s m x else slowed (with_loss s m x)).flight n)
    by true = set_origin s.flight m n (Lost x) (in_flight_has_place s.flight m x here) refl
    by false = none_origin false (place_of s.flight n) _ (slowed_counts (with_loss s m x) n)

expired_place : (now : ℕ) (p : Option Place) → Origin false p (option_map (expire now) p)
expired_place now None = λ h. inr h
expired_place now (Some Answered) = λ h. inr h
expired_place now (Some (Lost x)) = λ h. inr h
expired_place now (Some (InFlight x)) = by (nat_le x.deadline now)
  where
    by : (b : Bool) → Origin false (Some (InFlight x)) (Some (if b then Lost x else InFlight x))
    by true = λ h. absurd cc
    by false = λ h. inr h

expire_origin : (s : PipelineState) (now n : ℕ) → Origin false (place_of s.flight n) (place_of (after_expire s now).flight n)
expire_origin s now n = by (list_any (slows now) s.flight.places)
  where
    by : (b : Bool) → Origin false (place_of s.flight n)
        (place_of (if b then record (slowed (with_expired s now)) { rtt = backed_off s.rtt } else with_expired s now).flight n)
    by true = none_origin false (place_of s.flight n) _ (slowed_counts (with_expired s now) n)
    by false = λ h. expired_place now (place_of s.flight n) (ap counts (sym (place_of-map (expire now) s.flight n refl)) ∙ h)

taken_origin : (base k : ℕ) (places : List Place) (n : ℕ) → Origin false (at base places n) (at base (take k places) n)
taken_origin base k places n = by (nat_lt n base) refl (nat_lt n (base + k)) refl
  where
    by : (a : Bool) → nat_lt n base ≡ a → (b : Bool) → nat_lt n (base + k) ≡ b → Origin false (at base places n) (at base (take k places) n)
    by true e b f = none_origin false (at base places n) _ (ap counts (at-below base (take k places) n (ltb-true n base e)))
    by false e true f = same_origin false (at base places n) _ (at-take base k places n (ltb-true n (base + k) f))
    by false e false f = none_origin false (at base places n) _ (ap counts (at-take_past base k places n (ltb-false n base e) (ltb-false n (base + k) f)))

last_origin : (f : FlightState) (o : Option ℕ) (last n : ℕ) → Origin false (place_of f n) (place_of (ended o f last) n)
unfolding at
last_origin f (Some known) last n = λ h. inr h
last_origin f None last n = taken_origin f.base (last + 1 - f.base) f.places n

origin : (s : PipelineState) (call : Call) (n : ℕ) → Origin (sends s call n) (place_of s.flight n) (place_of (after s call).flight n)
origin s (Next now) n = sent_origin s now n (choice s) refl
origin s (Answer m now) n = answer_origin s m now n (place_of s.flight m) refl
origin s (Loss m) n = loss_origin s m n (place_of s.flight m) refl
origin s (Expire now) n = expire_origin s now n
origin s (Last last) n = last_origin s.flight s.flight.last last n

-- a segment whose loss counts was sent since the window was halved
sent_since : (first : PipelineState) → ((n : ℕ) → counts (place_of first.flight n) ≡ false) → (between : List Call) (n : ℕ)
    → counts (place_of (state_after first between).flight n) ≡ true → 1 ≤ sendings_of first between n
sent_since first none [] n h = absurd (both_ways (counts (place_of first.flight n)) (none n) h)
sent_since first none (call ∷ between) n h =
    by (sends (state_after first between) call n) (origin (state_after first between) call n h) (sent_since first none between n)
  where
    by : (b : Bool) → (b ≡ true) ⊎ (counts (place_of (state_after first between).flight n) ≡ true)
        → (counts (place_of (state_after first between).flight n) ≡ true → 1 ≤ sendings_of first between n)
        → 1 ≤ (if b then sendings_of first between n + 1 else sendings_of first between n)
    by true e rest = omega arith
    by false e rest = elim e [ (inl unsent) ↦ absurd cc | (inr before) ↦ rest before ]

-- ---- a call that halves the window loses a segment whose loss counts

-- the segment whose loss counts, before and after the call
abbrev IsLosing : PipelineState → Call → Type 0
IsLosing s call =
    (n : ℕ) × (counts (place_of s.flight n) ≡ true) × IsInFlight s n × IsLost (after s call) n

lost_then_spared : (s : PipelineState) (n : ℕ) (x : Sending) → place_of s.flight n ≡ Some (Lost x) → place_of (slowed s).flight n ≡ Some (Lost x)
lost_then_spared s n x e = place_of-map spare s.flight n refl ∙ ap (option_map spare) e

loss_loses : (s : PipelineState) (m : ℕ) (p : Option Place) → place_of s.flight m ≡ p → counts p ≡ true
    → (x : Sending) × (p ≡ Some (InFlight x)) × (place_of (losing p s m).flight m ≡ Some (Lost x))
loss_loses s m None here e = absurd cc
loss_loses s m (Some Answered) here e = absurd cc
loss_loses s m (Some (Lost x)) here e = absurd cc
loss_loses s m (Some (InFlight x)) here e = (x, refl, by x.spared e)
  where
    by : (b : Bool) → not b ≡ true → place_of (if b then with_loss s m x else slowed (with_loss s m x)).flight m ≡ Some (Lost x)
    by true e = absurd cc
    by false e = lost_then_spared (with_loss s m x) m x (place_of-set_own s.flight m (Lost x) (in_flight_has_place s.flight m x here))

slows_is : (now : ℕ) (p : Place) → slows now p ≡ true → (x : Sending) × (p ≡ InFlight x) × (counts (Some p) ≡ true) × (expire now p ≡ Lost x)
slows_is now Answered e = absurd cc
slows_is now (Lost x) e = absurd cc
slows_is now (InFlight x) e = let (due, unspared) = both (nat_le x.deadline now) (not x.spared) e in (x, refl, unspared, rw due refl)
  where
    both : (a b : Bool) → (a && b) ≡ true → (a ≡ true) × (b ≡ true)
    both true b e = (refl, e)
    both false b e = absurd cc

-- the first place that passes a test
passing : (test : Place → Bool) (places : List Place) → list_any test places ≡ true
    → (i : ℕ) × (p : Place) × (slice_get places i ≡ Some p) × (test p ≡ true)
passing test [] e = absurd cc
passing test (p ∷ places) e = by (test p) refl e (passing test places)
  where
    by : (b : Bool) → test p ≡ b → (b || list_any test places) ≡ true
        → (list_any test places ≡ true → (i : ℕ) × (q : Place) × (slice_get places i ≡ Some q) × (test q ≡ true))
        → (i : ℕ) × (q : Place) × (slice_get (p ∷ places) i ≡ Some q) × (test q ≡ true)
    by true here e rest = (0, p, refl, here)
    by false here e rest = let (i, q, is, passes) = rest e in (suc i, q, is, passes)

expire_loses : (s : PipelineState) (now : ℕ) → list_any (slows now) s.flight.places ≡ true → IsLosing s (Expire now)
expire_loses s now e =
    let (i, p, is, slow) = passing (slows now) s.flight.places e in
    let (x, is_flight, counting, is_lost) = slows_is now p slow in
    let n = s.flight.base + i in
    let here : place_of s.flight n ≡ Some p = place_of-index s.flight i ∙ is in
    let gone : place_of (with_expired s now).flight n ≡ Some (Lost x) =
    place_of-map (expire now) s.flight n refl ∙ ap (option_map (expire now)) here ∙ ap Some is_lost in
    (n, ap counts here ∙ counting, (x, here ∙ ap Some is_flight), (x, rw e (lost_then_spared (with_expired s now) n x gone)))

losing_call : (s : PipelineState) (call : Call) → halves s call ≡ true → IsLosing s call
losing_call s (Next now) e = absurd cc
losing_call s (Answer m now) e = absurd cc
losing_call s (Loss m) e =
    let (x, is, gone) = loss_loses s m (place_of s.flight m) refl e in
    (m, e, (x, is), (x, gone))
losing_call s (Expire now) e = expire_loses s now e
losing_call s (Last m) e = absurd cc

pub once : (s : PipelineState) (earlier call : Call) (between : List Call) → let t = state_after (after s earlier) between in
    halves s earlier ≡ true → halves t call ≡ true
    → (n : ℕ) × (1 ≤ sendings_of (after s earlier) between n) × IsInFlight t n × IsLost (after t call) n
once s earlier call between first second =
    let t = state_after (after s earlier) between in
    let (n, counting, is, gone) = losing_call t call second in
    (n, sent_since (after s earlier) (λ m. halved_counts s earlier m first) between n counting, is, gone)

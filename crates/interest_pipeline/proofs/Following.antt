-- What is true of each segment after any calls.
use Rattle.std.proofs.Common.{◌≡◌, ◌≤◌, ◌<◌, ◌+◌, ◌-◌, ◌^◌, ◌==◌, ◌&&◌, ℕ, Bool, true, false, [], ◌∷◌, ◌++◌, length, Some, None, refl, sym, ap, ◌∙◌, arith, inl, inr, if◌then◌else◌}
use Rattle.std.specs.Prelude.{Option, nat_lt, slice_get, slice_set, option_map, is_some}
use Rattle.std.proofs.lemmas.Bool.{eq-eqb, eqb-true, lt-ltb, le-ltb, both_ways}
use Rattle.interest_pipeline.specs.declared.place.Sending.{Sending}
use Rattle.interest_pipeline.specs.declared.place.Place.{Place}
use Rattle.interest_pipeline.specs.declared.place.Place.TheVariants.{Answered, InFlight, Lost}
use Rattle.interest_pipeline.specs.Places.{spare}
use Rattle.interest_pipeline.specs.Flight.{FlightState, given_up, has_new, is_wanted, next_new, place_of, with_places}
use Rattle.interest_pipeline.specs.Pipeline.{PipelineState, choice, left_after, sending_at, sent}
use Rattle.interest_pipeline.specs.Runs.{is_number}
use Rattle.interest_pipeline.proofs.Picking.{IsNewAt, chosen, picked, spent_gives_up}
use Rattle.interest_pipeline.proofs.Placing.{place_of-index, place_of-new, place_of-push_other, place_of-push_own, place_of-set_other, place_of-set_same}

-- a segment that was sent `count` times, and may be sent `left` times more
pub record IsSent (retries : ℕ) (wanted : Bool) (left count : ℕ) (was : Bool) : Type 0 where
  pub is_wanted : wanted ≡ true
  pub unanswered : was ≡ false
  pub total : count + left ≡ retries + 1
  pub some : 1 ≤ count

-- what is true of a segment, given whether it is wanted, its place, how often it was sent, and whether
-- it was answered
abbrev pub IsKnown : ℕ → Bool → Option Place → ℕ → Bool → Type 0
IsKnown retries wanted None count was = (count ≤ retries + 1) × (wanted ≡ true → (count ≡ 0) × (was ≡ false))
IsKnown retries wanted (Some Answered) count was = (count ≤ retries + 1) × (was ≡ true)
IsKnown retries wanted (Some (InFlight x)) count was = IsSent retries wanted x.left count was
IsKnown retries wanted (Some (Lost x)) count was = IsSent retries wanted x.left count was

pub known_count : (r : ℕ) (w : Bool) (p : Option Place) (k : ℕ) (a : Bool) → IsKnown r w p k a → k ≤ r + 1
known_count r w None k a known = known.0
known_count r w (Some Answered) k a known = known.0
known_count r w (Some (InFlight x)) k a known = omega (arith, known.total)
known_count r w (Some (Lost x)) k a known = omega (arith, known.total)

-- the same with another place, count and answer
pub moved : (r : ℕ) (w : Bool) (p q : Option Place) (k l : ℕ) (a b : Bool) → p ≡ q → k ≡ l → a ≡ b → IsKnown r w q l b → IsKnown r w p k a
moved r w p q k l a b ep ek ea known = rw (ep, ek, ea) known

pub spared_known : (r : ℕ) (w : Bool) (p : Option Place) (k : ℕ) (a : Bool) → IsKnown r w p k a → IsKnown r w (option_map spare p) k a
spared_known r w None k a known = known
spared_known r w (Some Answered) k a known = known
spared_known r w (Some (InFlight x)) k a known = known
spared_known r w (Some (Lost x)) k a known = known

-- ---- next

sent_count : (m n k : ℕ) (b : Bool) → (m == n) ≡ b → (if m == n then k + 1 else k) ≡ (if b then k + 1 else k)
sent_count m n k b e = ap (λ t. if t then k + 1 else k) e

again : (r : ℕ) (w : Bool) (x y : Sending) (k : ℕ) (a : Bool) → (x.left ≡ 0 → ⊥) → y.left ≡ x.left - 1
    → IsKnown r w (Some (Lost x)) k a → IsKnown r w (Some (InFlight y)) (k + 1) a
again r w x y k a some left known = record {
  is_wanted = known.is_wanted;
  unanswered = known.unanswered;
  total = omega (arith, left, some, known.total);
  some = omega arith;
}

first_time : (r : ℕ) (w : Bool) (y : Sending) (k : ℕ) (a : Bool) → w ≡ true → y.left ≡ r
    → IsKnown r w None k a → IsKnown r w (Some (InFlight y)) (k + 1) a
first_time r w y k a wanted left known =
    let (none, open_yet) = known.1 wanted in
    record { is_wanted = wanted; unanswered = open_yet; total = omega (arith, left, none); some = omega arith }

wanted_new : (a b c : Bool) → (a && b && c) ≡ true → c ≡ true
wanted_new true true c e = e
wanted_new true false c e = absurd cc
wanted_new false b c e = absurd cc

pub new_is_wanted : (f : FlightState) → has_new f ≡ true → is_wanted f.last (f.base + length f.places) ≡ true
new_is_wanted f new = wanted_new (nat_lt (length f.places) f.limit) (nat_lt (next_new f) (2 ^ 64 - 1)) (is_wanted f.last (next_new f)) new

lost_sent : (r : ℕ) (s : PipelineState) (now i : ℕ) (x : Sending) (n k : ℕ) (a : Bool)
    → is_some (given_up s.flight) ≡ false → i < length s.flight.places → slice_get s.flight.places i ≡ Some (Lost x)
    → IsKnown r (is_wanted s.flight.last n) (place_of s.flight n) k a
    → IsKnown r (is_wanted s.flight.last n)
    (place_of (with_places s.flight (slice_set s.flight.places i (InFlight (sending_at s now i)))) n)
    (if (s.flight.base + i) == n then k + 1 else k) a
lost_sent r s now i x n k a stays within is known = by ((s.flight.base + i) == n) refl
  where
    by : (b : Bool) → ((s.flight.base + i) == n) ≡ b
        → IsKnown r (is_wanted s.flight.last n)
        (place_of (with_places s.flight (slice_set s.flight.places i (InFlight (sending_at s now i)))) n)
        (if (s.flight.base + i) == n then k + 1 else k) a
    by true e =
        let same = eqb-true (s.flight.base + i) n e in
        let here = place_of-index s.flight i ∙ is in
        let left : (sending_at s now i).left ≡ x.left - 1 = ap (λ p. left_after p s.retries) is in
        let old = moved r (is_wanted s.flight.last n) (Some (Lost x)) (place_of s.flight n) k k a a (sym here ∙ ap (place_of s.flight) same) refl refl known in
        moved r (is_wanted s.flight.last n) _ (Some (InFlight (sending_at s now i))) _ (k + 1) a a
        (ap (place_of (with_places s.flight (slice_set s.flight.places i (InFlight (sending_at s now i))))) (sym same) ∙ place_of-set_same s.flight i (InFlight (sending_at s now i)) within)
        (sent_count (s.flight.base + i) n k true e) refl
        (again r (is_wanted s.flight.last n) x (sending_at s now i) k a (λ none. both_ways (is_some (given_up s.flight)) stays (spent_gives_up s.flight i x is none)) left old)
    by false e =
        moved r (is_wanted s.flight.last n) _ (place_of s.flight n) _ k a a
        (place_of-set_other s.flight i (InFlight (sending_at s now i)) n (λ same. both_ways ((s.flight.base + i) == n) e (eq-eqb (s.flight.base + i) n (sym same))))
        (sent_count (s.flight.base + i) n k false e) refl known

new_sent : (r : ℕ) (s : PipelineState) (now i : ℕ) (n k : ℕ) (a : Bool)
    → s.retries ≡ r → IsNewAt s.flight i
    → IsKnown r (is_wanted s.flight.last n) (place_of s.flight n) k a
    → IsKnown r (is_wanted s.flight.last n)
    (place_of (with_places s.flight (s.flight.places ++ InFlight (sending_at s now i) ∷ [])) n)
    (if (s.flight.base + i) == n then k + 1 else k) a
new_sent r s now i n k a retries (at_end, new) known = by ((s.flight.base + i) == n) refl
  where
    by : (b : Bool) → ((s.flight.base + i) == n) ≡ b
        → IsKnown r (is_wanted s.flight.last n)
        (place_of (with_places s.flight (s.flight.places ++ InFlight (sending_at s now i) ∷ [])) n)
        (if (s.flight.base + i) == n then k + 1 else k) a
    by true e =
        let same = eqb-true (s.flight.base + i) n e in
        let number : s.flight.base + length s.flight.places ≡ n = ap (λ j. s.flight.base + j) (sym at_end) ∙ same in
        let none : place_of s.flight n ≡ None = ap (place_of s.flight) (sym number) ∙ place_of-new s.flight in
        let past : slice_get s.flight.places i ≡ None = sym (place_of-index s.flight i) ∙ ap (place_of s.flight) same ∙ none in
        let left : (sending_at s now i).left ≡ r = ap (λ p. left_after p s.retries) past ∙ retries in
        let wanted : is_wanted s.flight.last n ≡ true = ap (is_wanted s.flight.last) (sym number) ∙ new_is_wanted s.flight new in
        let old = moved r (is_wanted s.flight.last n) None (place_of s.flight n) k k a a (sym none) refl refl known in
        moved r (is_wanted s.flight.last n) _ (Some (InFlight (sending_at s now i))) _ (k + 1) a a
        (ap (place_of (with_places s.flight (s.flight.places ++ InFlight (sending_at s now i) ∷ []))) (sym number) ∙ place_of-push_own s.flight (InFlight (sending_at s now i)))
        (sent_count (s.flight.base + i) n k true e) refl
        (first_time r (is_wanted s.flight.last n) (sending_at s now i) k a wanted left old)
    by false e =
        moved r (is_wanted s.flight.last n) _ (place_of s.flight n) _ k a a
        (place_of-push_other s.flight (InFlight (sending_at s now i)) n (λ same. both_ways ((s.flight.base + i) == n) e (eq-eqb (s.flight.base + i) n (ap (λ j. s.flight.base + j) at_end ∙ sym same))))
        (sent_count (s.flight.base + i) n k false e) refl known

pub next_known : (r : ℕ) (s : PipelineState) (now : ℕ) (o : Option ℕ) → choice s ≡ o → s.retries ≡ r → (n k : ℕ) (a : Bool)
    → IsKnown r (is_wanted s.flight.last n) (place_of s.flight n) k a
    → IsKnown r (is_wanted (sent o s now).flight.last n) (place_of (sent o s now).flight n)
    (if is_number (option_map (λ index. s.flight.base + index) o) n then k + 1 else k) a
next_known r s now None e retries n k a known = known
next_known r s now (Some i) e retries n k a known =
    let c = chosen s i e in
    elim (picked s.flight i c.pick) [
      | (inl (x, within, is)) ↦ rw (lt-ltb i (length s.flight.places) within) (lost_sent r s now i x n k a c.stays within is known)
      | (inr new) ↦ rw (le-ltb i (length s.flight.places) (omega (arith, new.0))) (new_sent r s now i n k a retries new known)
    ]

-- How many segments are in flight, and what a pipeline waits for.
use Rattle.std.proofs.Common.{◌≡◌, ◌≤◌, ◌<◌, ◌+◌, ◌-◌, ◌^◌, ◌&&◌, ◌||◌, cond, ℕ, Bool, true, false, List, [], ◌∷◌, length, Some, None, refl, ap, arith, inl, inr, if◌then◌else◌}
use Rattle.std.specs.Prelude.{Option, nat_lt, nat_le, is_some, option_map, position}
use Rattle.std.specs.List.{count_by}
use Rattle.std.specs.Option.{option_or}
use Rattle.std.proofs.lemmas.Bool.{lt-ltb, le-ltb, ltb-true, ltb-false, both_ways}
use Rattle.std.proofs.lemmas.List.Sums.{count_by-le-length, sum_by-cons, sum_by-set, sum_by_push}
use Rattle.interest_pipeline.specs.declared.place.Place.{Place}
use Rattle.interest_pipeline.specs.declared.place.Place.TheVariants.{Answered, InFlight, Lost}
use Rattle.interest_pipeline.specs.Places.{deadline_of, is_answered, is_in_flight, is_lost, sooner, soonest}
use Rattle.interest_pipeline.specs.Flight.{FlightState, IsEnded, given_up, has_new, in_flight_of, is_wanted, next_new, pick, put}
use Rattle.interest_pipeline.specs.Pipeline.{PipelineState, choice, deadline_of as wake_of, number_to_send, sending_at, sent, start}
use Rattle.interest_pipeline.specs.Runs.{Call, state_after}
use Rattle.interest_pipeline.proofs.Picking.{chosen, found, picked}
use Rattle.interest_pipeline.proofs.Sound.{IsFront, sound}

-- ---- in flight

one : Place → ℕ
one p = cond (is_in_flight p) 1 0

sent_in_flight : (s : PipelineState) (now i : ℕ) → choice s ≡ Some i
    → count_by is_in_flight (put s.flight.places i (InFlight (sending_at s now i))) ≤ s.window.cwnd
sent_in_flight s now i e =
    let places = s.flight.places in
    let p = InFlight (sending_at s now i) in
    let c = chosen s i e in
    elim (picked s.flight i c.pick) [
      | (inl (x, within, is)) ↦
          rw (lt-ltb i (length places) within)
          (omega (arith, c.room, sum_by-set (λ x. cond (is_in_flight x) 1 0) places i p Answered within))
      | (inr new) ↦
          rw (le-ltb i (length places) (omega (arith, new.0)))
          (omega (arith, c.room, sum_by_push (λ x. cond (is_in_flight x) 1 0) places p))
    ]

pub within_window : (s : PipelineState) (now n : ℕ) (o : Option ℕ) → choice s ≡ o → option_map (λ index. s.flight.base + index) o ≡ Some n
    → in_flight_of (sent o s now).flight ≤ (sent o s now).window.cwnd
within_window s now n None e is = absurd cc
within_window s now n (Some i) e is = sent_in_flight s now i e

pub within_limit : (limit retries : ℕ) (calls : List Call) → in_flight_of (state_after (start limit retries) calls).flight ≤ limit
within_limit limit retries calls =
    let s = state_after (start limit retries) calls in
    omega (arith, (sound limit retries calls).flight.short, count_by-le-length is_in_flight s.flight.places)

-- ---- what a pipeline waits for

no_sooner : (a b : Option ℕ) → sooner a b ≡ None → (a ≡ None) × (b ≡ None)
no_sooner None b e = (refl, e)
no_sooner (Some a) None e = absurd cc
no_sooner (Some a) (Some b) e = absurd cc

not_in_flight : (p : Place) → deadline_of p ≡ None → is_in_flight p ≡ false
not_in_flight Answered e = refl
not_in_flight (InFlight x) e = absurd cc
not_in_flight (Lost x) e = refl

-- without a deadline, no segment is in flight
none_in_flight : (places : List Place) → soonest places ≡ None → count_by is_in_flight places ≡ 0
none_in_flight [] e = refl
none_in_flight (p ∷ places) e =
    let (here, rest) = no_sooner (deadline_of p) (soonest places) e in
    let value : Bool → ℕ = λ b. cond b 1 0 in
    let is_none = ap value (not_in_flight p here) in
    omega (arith, sum_by-cons (λ x. cond (is_in_flight x) 1 0) p places, is_none, none_in_flight places rest)

-- what is neither answered nor in flight is lost
lost_else : (p : Place) → is_answered p ≡ false → is_in_flight p ≡ false → is_lost p ≡ true
lost_else Answered a f = absurd cc
lost_else (InFlight x) a f = absurd cc
lost_else (Lost x) a f = refl

-- without a deadline, a segment is lost, or nothing is asked for
lost_or_none : (places : List Place) → IsFront places → soonest places ≡ None → position is_lost places ≡ None → places ≡ []
lost_or_none [] front e none = refl
lost_or_none (p ∷ places) front e none =
    let (here, rest) = no_sooner (deadline_of p) (soonest places) e in
    let lost = found is_lost (p ∷ places) 0 p refl (lost_else p front (not_in_flight p here)) in
    let isnt : is_some (position is_lost (p ∷ places)) ≡ false = ap is_some none in
    absurd (both_ways (is_some (position is_lost (p ∷ places))) isnt lost)

wanted_at : (last : Option ℕ) (n : ℕ) → ((l : ℕ) → last ≡ Some l → n ≤ l) → is_wanted last n ≡ true
wanted_at None n below = refl
wanted_at (Some l) n below = let h = below l refl in grind arith

all_true : (a b c : Bool) → a ≡ true → b ≡ true → c ≡ true → (a && b && c) ≡ true
all_true a b c ea eb ec = rw (ea, eb, ec) refl

-- the first segment of all that are asked for is new
first_new : (f : FlightState) → f.places ≡ [] → 1 ≤ f.limit → f.base < 2 ^ 64 - 1 → (IsEnded f → ⊥) → has_new f ≡ true
first_new f none some small going =
    let empty : length f.places ≡ 0 = ap length none in
    all_true (nat_lt (length f.places) f.limit) (nat_lt (next_new f) (2 ^ 64 - 1)) (is_wanted f.last (next_new f))
    (lt-ltb (length f.places) f.limit (omega arith))
    (lt-ltb (next_new f) (2 ^ 64 - 1) (omega arith))
    (wanted_at f.last (next_new f) (λ l is. by l is (nat_lt l f.base) refl))
  where
    by : (l : ℕ) → f.last ≡ Some l → (b : Bool) → nat_lt l f.base ≡ b → f.base + length f.places ≤ l
    by l is true e = absurd (going (l, is, ltb-true l f.base e))
    by l is false e = let h = ltb-false l f.base e in let empty : length f.places ≡ 0 = ap length none in omega arith

picks : (f : FlightState) → IsFront f.places → soonest f.places ≡ None → 1 ≤ f.limit → f.base < 2 ^ 64 - 1 → (IsEnded f → ⊥)
    → is_some (pick f) ≡ true
picks f front none some small going = by (position is_lost f.places) refl
  where
    by : (o : Option ℕ) → position is_lost f.places ≡ o → is_some (option_or o (if has_new f then Some (length f.places) else None)) ≡ true
    by (Some i) e = refl
    by None e = rw (first_new f (lost_or_none f.places front none e) some small going) refl

chooses : (s : PipelineState) → given_up s.flight ≡ None → 1 ≤ s.window.cwnd → count_by is_in_flight s.flight.places ≡ 0 → is_some (pick s.flight) ≡ true
    → is_some (number_to_send s) ≡ true
chooses s stays some none pick_some = rw (stays, room) (by (pick s.flight) pick_some)
  where
    room : nat_le s.window.cwnd (in_flight_of s.flight) ≡ false
    room = grind arith

    by : (o : Option ℕ) → is_some o ≡ true → is_some (option_map (λ index. s.flight.base + index) o) ≡ true
    by None e = absurd cc
    by (Some i) e = refl

wakes : (s : PipelineState) (d : ℕ) → given_up s.flight ≡ None → soonest s.flight.places ≡ Some d → is_some (wake_of s) ≡ true
wakes s d stays e = rw (stays, e) refl

pub progress : (limit retries : ℕ) (calls : List Call) → 1 ≤ limit
    → let s = state_after (start limit retries) calls in
    s.flight.base < 2 ^ 64 - 1 → (IsEnded s.flight → ⊥) → given_up s.flight ≡ None
    → (is_some (number_to_send s) || is_some (wake_of s)) ≡ true
progress limit retries calls some small going stays =
    by (soonest (state_after (start limit retries) calls).flight.places) refl
  where
    either : (a b : Bool) → b ≡ true → (a || b) ≡ true
    either true b e = refl
    either false b e = e

    by : (o : Option ℕ) → soonest (state_after (start limit retries) calls).flight.places ≡ o
        → let s = state_after (start limit retries) calls in (is_some (number_to_send s) || is_some (wake_of s)) ≡ true
    by (Some d) e =
        let s = state_after (start limit retries) calls in
        either (is_some (number_to_send s)) (is_some (wake_of s)) (wakes s d stays e)
    by None e =
        let s = state_after (start limit retries) calls in
        let limits = sound limit retries calls in
        let sends = chooses s stays (omega (arith, limits.window.least, some)) (none_in_flight s.flight.places e)
        (picks s.flight limits.flight.front e (omega (arith, limits.flight.limit_is, some)) small going) in
        rw sends refl

-- At its deadline, a pipeline loses a segment in flight.
use Rattle.std.proofs.Common.{◌≡◌, ◌≤◌, ◌<◌, ◌+◌, min, cond, ℕ, Bool, true, false, List, [], ◌∷◌, map, Some, None, refl, ap, ◌∙◌, arith, inl, inr, ◌⊎◌, if◌then◌else◌}
use Rattle.std.specs.Prelude.{Option, nat_le, is_some}
use Rattle.std.specs.List.{count_by, list_any}
use Rattle.std.proofs.lemmas.Bool.{leb-true, leb-false}
use Rattle.std.proofs.lemmas.List.Sums.{sum_by-cons}
use Rattle.interest_pipeline.specs.declared.place.Place.{Place}
use Rattle.interest_pipeline.specs.declared.place.Place.TheVariants.{Answered, InFlight, Lost}
use Rattle.interest_pipeline.specs.Rtt.{backed_off}
use Rattle.interest_pipeline.specs.Places.{deadline_of, expire, is_in_flight, slows, sooner, soonest, spare}
use Rattle.interest_pipeline.specs.Flight.{given_up, in_flight_of}
use Rattle.interest_pipeline.specs.Pipeline.{PipelineState, after_expire, deadline_of as wake_of, slowed, with_expired}

-- one, if the place is in flight
abbrev one : Place → ℕ
one p = cond (is_in_flight p) 1 0

-- one more place
count_more : (p : Place) (places : List Place) → count_by is_in_flight (p ∷ places) ≡ one p + count_by is_in_flight places
count_more p places = sum_by-cons (λ x. cond (is_in_flight x) 1 0) p places

-- what is spared stays in flight
spared_one : (p : Place) → one (spare p) ≡ one p
spared_one Answered = refl
spared_one (InFlight x) = refl
spared_one (Lost x) = refl

spared_count : (places : List Place) → count_by is_in_flight (map spare places) ≡ count_by is_in_flight places
spared_count [] = refl
spared_count (p ∷ places) =
    omega (arith, count_more p places, count_more (spare p) (map spare places), spared_one p, spared_count places)

-- a timeout puts nothing in flight
expired_one : (now : ℕ) (p : Place) → one (expire now p) ≤ one p
expired_one now Answered = omega arith
expired_one now (Lost x) = omega arith
expired_one now (InFlight x) = elim (nat_le x.deadline now) as (λ b. one (if b then Lost x else InFlight x) ≤ 1) [ true ↦ omega arith | false ↦ omega arith ]

expired_count : (now : ℕ) (places : List Place) → count_by is_in_flight (map (expire now) places) ≤ count_by is_in_flight places
expired_count now [] = omega arith
expired_count now (p ∷ places) =
    omega (arith, count_more p places, count_more (expire now p) (map (expire now) places), expired_one now p, expired_count now places)

le_own : (n : ℕ) → nat_le n n ≡ true
le_own n = grind arith

-- a place whose deadline has come is lost
lost_one : (now : ℕ) (p : Place) → deadline_of p ≡ Some now → (one (expire now p) ≡ 0) × (one p ≡ 1)
lost_one now Answered e = absurd cc
lost_one now (Lost x) e = absurd cc
lost_one now (InFlight x) e =
    let same : x.deadline ≡ now = cc in
    let due : nat_le x.deadline now ≡ true = ap (λ n. nat_le n now) same ∙ le_own now in
    (rw due refl, refl)

-- the sooner of two moments is one of them
sooner_is : (a b : Option ℕ) (d : ℕ) → sooner a b ≡ Some d → (a ≡ Some d) ⊎ (b ≡ Some d)
sooner_is None b d e = inr e
sooner_is (Some a) None d e = inl e
sooner_is (Some a) (Some b) d e = by (nat_le a b) refl
  where
    by : (c : Bool) → nat_le a b ≡ c → (◌≡◌ {A = Option ℕ} (Some a) (Some d)) ⊎ (◌≡◌ {A = Option ℕ} (Some b) (Some d))
    by true f = let is : min a b ≡ d = cc in let le = leb-true a b f in inl (ap Some (let same : a ≡ d = omega arith in same))
    by false f = let is : min a b ≡ d = cc in let lt = leb-false a b f in inr (ap Some (let same : b ≡ d = omega arith in same))

fewer : (d : ℕ) (places : List Place) → soonest places ≡ Some d → count_by is_in_flight (map (expire d) places) < count_by is_in_flight places
fewer d [] e = absurd cc
fewer d (p ∷ places) e = by (sooner_is (deadline_of p) (soonest places) d e) (fewer d places)
  where
    by : (deadline_of p ≡ Some d) ⊎ (soonest places ≡ Some d)
        → (soonest places ≡ Some d → count_by is_in_flight (map (expire d) places) < count_by is_in_flight places)
        → count_by is_in_flight (map (expire d) (p ∷ places)) < count_by is_in_flight (p ∷ places)
    by (inl here) rest =
        let (none, some) = lost_one d p here in
        omega (arith, count_more p places, count_more (expire d p) (map (expire d) places), none, some, expired_count d places)
    by (inr later) rest =
        omega (arith, count_more p places, count_more (expire d p) (map (expire d) places), expired_one d p, rest later)

none_if : (b : Bool) (o : Option ℕ) (d : ℕ) → (if b then None else o) ≡ Some d → o ≡ Some d
none_if true o d e = absurd cc
none_if false o d e = e

pub expires : (s : PipelineState) (d : ℕ) → wake_of s ≡ Some d → in_flight_of (after_expire s d).flight < in_flight_of s.flight
expires s d e =
    by (list_any (slows d) s.flight.places) (fewer d s.flight.places (none_if (is_some (given_up s.flight)) (soonest s.flight.places) d e))
  where
    by : (b : Bool) → count_by is_in_flight (map (expire d) s.flight.places) < count_by is_in_flight s.flight.places
        → in_flight_of (if b then record (slowed (with_expired s d)) { rtt = backed_off s.rtt } else with_expired s d).flight < in_flight_of s.flight
    by true less = omega (arith, less, spared_count (map (expire d) s.flight.places))
    by false less = less

-- Which place is picked.
use Rattle.std.proofs.Common.{◌≡◌, ◌<◌, ◌+◌, ◌⊎◌, ℕ, suc, zero, Bool, true, false, cond, not, List, [], ◌∷◌, length, get_or, Some, None, refl, sym, ap, ◌∙◌, arith, inl, inr, if◌then◌else◌, ◌||◌}
use Rattle.std.specs.Prelude.{Option, slice_get, position, is_some, nat_le, option_map}
use Rattle.std.specs.List.{position_or_len}
use Rattle.std.specs.Option.{option_or}
use Rattle.std.proofs.lemmas.Bool.{eq-eqb, lt-ltb}
use Rattle.std.proofs.lemmas.Option.{cond_some, slice_get-get_or}
use Rattle.std.proofs.lemmas.List.Quantifiers.{position-Some}
use Rattle.interest_pipeline.specs.declared.place.Sending.{Sending}
use Rattle.interest_pipeline.specs.declared.place.Place.{Place}
use Rattle.interest_pipeline.specs.declared.place.Place.TheVariants.{Answered, InFlight, Lost}
use Rattle.interest_pipeline.specs.Places.{is_lost, is_spent}
use Rattle.interest_pipeline.specs.Flight.{FlightState, given_up, has_new, in_flight_of, pick}
use Rattle.interest_pipeline.specs.Pipeline.{PipelineState, choice}

lost_is : (p : Place) → is_lost p ≡ true → (x : Sending) × (p ≡ Lost x)
lost_is Answered e = absurd cc
lost_is (InFlight x) e = absurd cc
lost_is (Lost x) e = (x, refl)

-- the place of a lost segment
abbrev pub IsLostAt : FlightState → ℕ → Type 0
IsLostAt f i = (x : Sending) × (i < length f.places) × (slice_get f.places i ≡ Some (Lost x))

-- the place of a new segment
abbrev pub IsNewAt : FlightState → ℕ → Type 0
IsNewAt f i = (i ≡ length f.places) × (has_new f ≡ true)

pub picked : (f : FlightState) (i : ℕ) → pick f ≡ Some i → IsLostAt f i ⊎ IsNewAt f i
picked f i e = by (position is_lost f.places) refl e
  where
    by : (o : Option ℕ) → position is_lost f.places ≡ o → option_or o (if has_new f then Some (length f.places) else None) ≡ Some i → IsLostAt f i ⊎ IsNewAt f i
    by (Some j) at e =
        let same : j ≡ i = cc in
        let (within, lost, earlier) = position-Some is_lost f.places i Answered (at ∙ ap Some same) in
        let (x, is) = lost_is (get_or f.places i Answered) lost in
        inl (x, within, slice_get-get_or f.places i Answered within ∙ ap Some is)
    by None at e =
        let (new, same) = cond_some (has_new f) (length f.places) i e in
        inr (sym same, new)

-- what is true if a segment is sent
pub record IsChosen (s : PipelineState) (i : ℕ) : Type 0 where
  pub stays : is_some (given_up s.flight) ≡ false
  pub room : in_flight_of s.flight < s.window.cwnd
  pub pick : pick s.flight ≡ Some i

or_false : (a b : Bool) → (a || b) ≡ false → (a ≡ false) × (b ≡ false)
or_false true b e = absurd cc
or_false false b e = (refl, e)

none_if : (b : Bool) (o : Option ℕ) (i : ℕ) → (if b then None else o) ≡ Some i → (b ≡ false) × (o ≡ Some i)
none_if true o i e = absurd cc
none_if false o i e = (refl, e)

le_false : (a b : ℕ) → nat_le a b ≡ false → b < a
le_false a b e = grind arith

pub chosen : (s : PipelineState) (i : ℕ) → choice s ≡ Some i → IsChosen s i
chosen s i e =
    let (none, is) = none_if (is_some (given_up s.flight) || nat_le s.window.cwnd (in_flight_of s.flight)) (pick s.flight) i e in
    let (stays, fits) = or_false (is_some (given_up s.flight)) (nat_le s.window.cwnd (in_flight_of s.flight)) none in
    record { stays = stays; room = le_false s.window.cwnd (in_flight_of s.flight) fits; pick = is }

-- a place that passes a test is found
found_below : (test : Place → Bool) (places : List Place) (i : ℕ) (p : Place) → slice_get places i ≡ Some p → test p ≡ true
    → position_or_len test places < length places
found_below test [] i p at passes = absurd cc
found_below test (q ∷ places) zero p at passes =
    let same : test q ≡ true = ap test (let e : q ≡ p = cc in e) ∙ passes in
    rw same (omega arith)
found_below test (q ∷ places) (suc i) p at passes = by (test q) (found_below test places i p at passes)
  where
    by : (b : Bool) → position_or_len test places < length places → cond (not b) (1 + position_or_len test places) 0 < length (q ∷ places)
    by true rest = omega arith
    by false rest = omega arith

pub found : (test : Place → Bool) (places : List Place) (i : ℕ) (p : Place) → slice_get places i ≡ Some p → test p ≡ true
    → is_some (position test places) ≡ true
found test places i p at passes = rw (lt-ltb (position_or_len test places) (length places) (found_below test places i p at passes)) refl

some_map : (base : ℕ) (o : Option ℕ) → is_some (option_map (λ index. base + index) o) ≡ is_some o
some_map base None = refl
some_map base (Some i) = refl

-- a segment that may not be sent again is given up
pub spent_gives_up : (f : FlightState) (i : ℕ) (x : Sending) → slice_get f.places i ≡ Some (Lost x) → x.left ≡ 0 → is_some (given_up f) ≡ true
spent_gives_up f i x is none =
    some_map f.base (position is_spent f.places) ∙ found is_spent f.places i (Lost x) is (eq-eqb x.left 0 none)

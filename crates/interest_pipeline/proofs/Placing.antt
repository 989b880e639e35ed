-- What is known of one segment, after the places have changed.
use Rattle.std.proofs.Common.{◌≡◌, ◌≤◌, ◌<◌, ◌+◌, ◌-◌, ℕ, zero, suc, Bool, true, false, List, [], ◌∷◌, ◌++◌, length, drop, take, map, Some, None, refl, sym, ap, ◌∙◌, arith, if◌then◌else◌}
use Rattle.std.specs.Prelude.{Option, nat_lt, slice_get, slice_set, option_map}
use Rattle.std.specs.List.{prefix_len}
use Rattle.std.proofs.lemmas.Bool.{ltb-true, ltb-false, lt-ltb, le-ltb, both_ways}
use Rattle.std.proofs.lemmas.Option.{slice_get-map, slice_get_within, slice_get_past}
use Rattle.interest_pipeline.specs.declared.place.Sending.{Sending}
use Rattle.interest_pipeline.specs.declared.place.Place.{Place}
use Rattle.interest_pipeline.specs.declared.place.Place.TheVariants.{Answered, InFlight, Lost}
use Rattle.interest_pipeline.specs.Places.{is_answered}
use Rattle.interest_pipeline.specs.Flight.{FlightState, place_of, advanced, with_places}

-- what is known of the segment `number`, if the places begin with the segment `base`
unfoldable pub at : ℕ → List Place → ℕ → Option Place
at base places number = if nat_lt number base then Some Answered else slice_get places (number - base)

pub at-below : (base : ℕ) (places : List Place) (number : ℕ) → number < base → at base places number ≡ Some Answered
unfolding at
at-below base places number below = rw (lt-ltb number base below) refl

pub at-above : (base : ℕ) (places : List Place) (number : ℕ) → base ≤ number → at base places number ≡ slice_get places (number - base)
unfolding at
at-above base places number above = rw (le-ltb number base above) refl

-- one answered segment at the front
at_front : (base : ℕ) (places : List Place) (number : ℕ) → at (base + 1) places number ≡ at base (Answered ∷ places) number
at_front base places number =
    by (nat_lt number base) (nat_lt number (base + 1)) refl refl
  where
    by : (a b : Bool) → nat_lt number base ≡ a → nat_lt number (base + 1) ≡ b → at (base + 1) places number ≡ at base (Answered ∷ places) number
    by true b e f =
        let below = ltb-true number base e in
        at-below (base + 1) places number (omega arith) ∙ sym (at-below base (Answered ∷ places) number below)
    by false true e f =
        let above = ltb-false number base e in
        let below = ltb-true number (base + 1) f in
        let none : number - base ≡ 0 = omega arith in
        at-below (base + 1) places number below
        ∙ sym (at-above base (Answered ∷ places) number above ∙ ap (slice_get (Answered ∷ places)) none)
    by false false e f =
        let above = ltb-false number base e in
        let past = ltb-false number (base + 1) f in
        let next : number - base ≡ suc (number - (base + 1)) = omega arith in
        at-above (base + 1) places number past
        ∙ sym (at-above base (Answered ∷ places) number above ∙ ap (slice_get (Answered ∷ places)) next)

-- the answered segments at the front can be removed
advanced_at : (base : ℕ) (places : List Place) (number : ℕ)
    → at (base + prefix_len is_answered places) (drop (prefix_len is_answered places) places) number ≡ at base places number
advanced_at base [] number = ap (λ b. at b [] number) (same base)
  where
    same : (n : ℕ) → n + 0 ≡ n
    same n = omega arith
advanced_at base (Answered ∷ places) number =
    let count = prefix_len is_answered places in
    let longer : base + (1 + count) ≡ (base + 1) + count = omega arith in
    let next : 1 + count ≡ suc count = omega arith in
    ap (λ b. at b (drop (1 + count) (Answered ∷ places)) number) longer
    ∙ ap (λ c. at ((base + 1) + count) (drop c (Answered ∷ places)) number) next
    ∙ advanced_at (base + 1) places number
    ∙ at_front base places number
advanced_at base (InFlight x ∷ places) number = ap (λ b. at b (InFlight x ∷ places) number) (same base)
  where
    same : (n : ℕ) → n + 0 ≡ n
    same n = omega arith
advanced_at base (Lost x ∷ places) number = ap (λ b. at b (Lost x ∷ places) number) (same base)
  where
    same : (n : ℕ) → n + 0 ≡ n
    same n = omega arith

pub place_of-advanced : (f : FlightState) (number : ℕ) → place_of (advanced f) number ≡ place_of f number
unfolding at
place_of-advanced f number = advanced_at f.base f.places number

-- ---- one place is set

slice_get-set_same : (places : List Place) (i : ℕ) (p : Place) → i < length places → slice_get (slice_set places i p) i ≡ Some p
slice_get-set_same [] i p within = absurd (omega arith)
slice_get-set_same (q ∷ places) zero p within = refl
slice_get-set_same (q ∷ places) (suc i) p within = slice_get-set_same places i p (omega arith)

slice_get-set_other : (places : List Place) (i j : ℕ) (p : Place) → (j ≡ i → ⊥) → slice_get (slice_set places i p) j ≡ slice_get places j
slice_get-set_other [] i j p differ = refl
slice_get-set_other (q ∷ places) zero zero p differ = absurd (differ refl)
slice_get-set_other (q ∷ places) zero (suc j) p differ = refl
slice_get-set_other (q ∷ places) (suc i) zero p differ = refl
slice_get-set_other (q ∷ places) (suc i) (suc j) p differ = slice_get-set_other places i j p (λ e. differ (ap suc e))

-- the segment at an index within the places
pub place_of-set_same : (f : FlightState) (i : ℕ) (p : Place) → i < length f.places
    → place_of (with_places f (slice_set f.places i p)) (f.base + i) ≡ Some p
unfolding at
place_of-set_same f i p within =
    let index : (f.base + i) - f.base ≡ i = omega arith in
    at-above f.base (slice_set f.places i p) (f.base + i) (omega arith)
    ∙ ap (slice_get (slice_set f.places i p)) index ∙ slice_get-set_same f.places i p within

pub place_of-set_other : (f : FlightState) (i : ℕ) (p : Place) (number : ℕ) → (number ≡ f.base + i → ⊥)
    → place_of (with_places f (slice_set f.places i p)) number ≡ place_of f number
unfolding at
place_of-set_other f i p number differ = by (nat_lt number f.base) refl
  where
    by : (a : Bool) → nat_lt number f.base ≡ a → place_of (with_places f (slice_set f.places i p)) number ≡ place_of f number
    by true e = rw e refl
    by false e =
        let above = ltb-false number f.base e in
        rw e (slice_get-set_other f.places i (number - f.base) p (λ same. differ (omega arith)))

-- a segment that has been asked for and not answered has a place
pub record HasPlace (f : FlightState) (number : ℕ) : Type 0 where
  pub above : f.base ≤ number
  pub within : number - f.base < length f.places

has_place : (f : FlightState) (number : ℕ) (p : Place) → place_of f number ≡ Some p → is_answered p ≡ false → HasPlace f number
has_place f number p e waiting = by (nat_lt number f.base) refl e
  where
    by : (a : Bool) → nat_lt number f.base ≡ a → (if a then Some Answered else slice_get f.places (number - f.base)) ≡ Some p → HasPlace f number
    by true below e = let same : Answered ≡ p = cc in absurd (both_ways (is_answered p) waiting (ap is_answered (sym same)))
    by false not_below e = record {
      above = ltb-false number f.base not_below;
      within = slice_get_within f.places (number - f.base) p e;
    }

pub in_flight_has_place : (f : FlightState) (number : ℕ) (x : Sending) → place_of f number ≡ Some (InFlight x) → HasPlace f number
in_flight_has_place f number x e = has_place f number (InFlight x) e refl

pub lost_has_place : (f : FlightState) (number : ℕ) (x : Sending) → place_of f number ≡ Some (Lost x) → HasPlace f number
lost_has_place f number x e = has_place f number (Lost x) e refl

pub place_of-set_own : (f : FlightState) (number : ℕ) (p : Place) → HasPlace f number
    → place_of (with_places f (slice_set f.places (number - f.base) p)) number ≡ Some p
place_of-set_own f number p h =
    let own : number ≡ f.base + (number - f.base) = omega (arith, h.above) in
    ap (place_of (with_places f (slice_set f.places (number - f.base) p))) own ∙ place_of-set_same f (number - f.base) p h.within

pub place_of-set_not : (f : FlightState) (number other : ℕ) (p : Place) → HasPlace f number → (other ≡ number → ⊥)
    → place_of (with_places f (slice_set f.places (number - f.base) p)) other ≡ place_of f other
place_of-set_not f number other p h differ =
    place_of-set_other f (number - f.base) p other (λ same. differ (omega (arith, h.above)))

-- ---- all places are mapped

pub place_of-map : (g : Place → Place) (f : FlightState) (number : ℕ) → g Answered ≡ Answered
    → place_of (with_places f (map g f.places)) number ≡ option_map g (place_of f number)
place_of-map g f number stays = by (nat_lt number f.base)
  where
    by : (a : Bool) → (if a then Some Answered else slice_get (map g f.places) (number - f.base))
        ≡ option_map g (if a then Some Answered else slice_get f.places (number - f.base))
    by true = ap Some (sym stays)
    by false = slice_get-map g f.places (number - f.base)

-- ---- one place more

slice_get-push_own : (places : List Place) (p : Place) → slice_get (places ++ p ∷ []) (length places) ≡ Some p
slice_get-push_own [] p = refl
slice_get-push_own (q ∷ places) p = slice_get-push_own places p

slice_get-push_other : (places : List Place) (p : Place) (i : ℕ) → (i ≡ length places → ⊥) → slice_get (places ++ p ∷ []) i ≡ slice_get places i
slice_get-push_other [] p zero differ = absurd (differ refl)
slice_get-push_other [] p (suc i) differ = refl
slice_get-push_other (q ∷ places) p zero differ = refl
slice_get-push_other (q ∷ places) p (suc i) differ = slice_get-push_other places p i (λ e. differ (ap suc e))

pub place_of-push_own : (f : FlightState) (p : Place) → place_of (with_places f (f.places ++ p ∷ [])) (f.base + length f.places) ≡ Some p
unfolding at
place_of-push_own f p =
    let index : (f.base + length f.places) - f.base ≡ length f.places = omega arith in
    at-above f.base (f.places ++ p ∷ []) (f.base + length f.places) (omega arith)
    ∙ ap (slice_get (f.places ++ p ∷ [])) index ∙ slice_get-push_own f.places p

pub place_of-push_other : (f : FlightState) (p : Place) (number : ℕ) → (number ≡ f.base + length f.places → ⊥)
    → place_of (with_places f (f.places ++ p ∷ [])) number ≡ place_of f number
place_of-push_other f p number differ = by (nat_lt number f.base) refl
  where
    by : (a : Bool) → nat_lt number f.base ≡ a → (if a then Some Answered else slice_get (f.places ++ p ∷ []) (number - f.base)) ≡ (if a then Some Answered else slice_get f.places (number - f.base))
    by true e = refl
    by false e =
        let above = ltb-false number f.base e in
        slice_get-push_other f.places p (number - f.base) (λ same. differ (omega arith))

-- the next new segment has no place
pub place_of-new : (f : FlightState) → place_of f (f.base + length f.places) ≡ None
unfolding at
place_of-new f = at-above f.base f.places (f.base + length f.places) (omega arith) ∙ slice_get_past f.places _ (omega arith)

-- ---- the places up to the last segment

slice_get-take : (n : ℕ) (places : List Place) (i : ℕ) → i < n → slice_get (take n places) i ≡ slice_get places i
slice_get-take zero places i within = absurd (omega arith)
slice_get-take (suc n) [] i within = refl
slice_get-take (suc n) (p ∷ places) zero within = refl
slice_get-take (suc n) (p ∷ places) (suc i) within = slice_get-take n places i (omega arith)

slice_get-take_past : (n : ℕ) (places : List Place) (i : ℕ) → n ≤ i → slice_get (take n places) i ≡ None
slice_get-take_past zero places i past = refl
slice_get-take_past (suc n) [] i past = refl
slice_get-take_past (suc n) (p ∷ places) zero past = absurd (omega arith)
slice_get-take_past (suc n) (p ∷ places) (suc i) past = slice_get-take_past n places i (omega arith)

pub at-take : (base n : ℕ) (places : List Place) (number : ℕ) → number < base + n → at base (take n places) number ≡ at base places number
unfolding at
at-take base n places number within = by (nat_lt number base) refl
  where
    by : (a : Bool) → nat_lt number base ≡ a → (if a then Some Answered else slice_get (take n places) (number - base)) ≡ (if a then Some Answered else slice_get places (number - base))
    by true e = refl
    by false e =
        let above = ltb-false number base e in
        slice_get-take n places (number - base) (omega arith)

pub at-take_past : (base n : ℕ) (places : List Place) (number : ℕ) → base ≤ number → base + n ≤ number → at base (take n places) number ≡ None
at-take_past base n places number above past =
    at-above base (take n places) number above ∙ slice_get-take_past n places (number - base) (omega arith)

-- the segment at an index
pub place_of-index : (f : FlightState) (i : ℕ) → place_of f (f.base + i) ≡ slice_get f.places i
unfolding at
place_of-index f i =
    let index : (f.base + i) - f.base ≡ i = omega arith in
    at-above f.base f.places (f.base + i) (omega arith) ∙ ap (slice_get f.places) index

-- Without lost segments, none is found.
use Rattle.std.proofs.Common.{◌≡◌, ◌≤◌, ◌+◌, ℕ, Bool, true, false, cond, not, List, [], ◌∷◌, length, None, refl, ap, arith}
use Rattle.std.specs.Prelude.{position}
use Rattle.std.specs.List.{count_by, position_or_len}
use Rattle.std.proofs.lemmas.Bool.{le-ltb}
use Rattle.std.proofs.lemmas.List.Sums.{sum_by-cons}
use Rattle.interest_pipeline.specs.declared.place.Place.{Place}
use Rattle.interest_pipeline.specs.declared.place.Place.TheVariants.{Answered, InFlight, Lost}
use Rattle.interest_pipeline.specs.Places.{is_lost, is_spent}

none_before : (test : Place → Bool) → ((p : Place) → test p ≡ true → is_lost p ≡ true) → (places : List Place)
    → count_by is_lost places ≡ 0 → length places ≤ position_or_len test places
none_before test lost [] none = omega arith
none_before test lost (p ∷ places) none =
    by (test p) refl (none_before test lost places (omega (arith, none, sum_by-cons (λ x. cond (is_lost x) 1 0) p places)))
  where
    by : (b : Bool) → test p ≡ b → length places ≤ position_or_len test places
        → length (p ∷ places) ≤ cond (not b) (1 + position_or_len test places) 0
    by true e rest =
        let value : Bool → ℕ = λ b. cond b 1 0 in
        let one = ap value (lost p e) in
        absurd (omega (arith, none, one, sum_by-cons (λ x. cond (is_lost x) 1 0) p places))
    by false e rest = omega (arith, rest)

-- a test that only lost segments pass finds nothing
pub none_found : (test : Place → Bool) → ((p : Place) → test p ≡ true → is_lost p ≡ true) → (places : List Place)
    → count_by is_lost places ≡ 0 → position test places ≡ None
none_found test lost places none = rw (le-ltb (position_or_len test places) (length places) (none_before test lost places none)) refl

pub none_lost : (places : List Place) → count_by is_lost places ≡ 0 → position is_lost places ≡ None
none_lost places none = none_found is_lost (λ p e. e) places none

spent_is_lost : (p : Place) → is_spent p ≡ true → is_lost p ≡ true
spent_is_lost Answered e = absurd cc
spent_is_lost (InFlight x) e = absurd cc
spent_is_lost (Lost x) e = refl

pub none_spent : (places : List Place) → count_by is_lost places ≡ 0 → position is_spent places ≡ None
none_spent places none = none_found is_spent spent_is_lost places none

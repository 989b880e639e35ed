-- Answered segments at the front.
use Rattle.std.proofs.Common.{◌≡◌, ◌+◌, ◌<◌, ℕ, suc, List, [], ◌∷◌, length, get_or, drop, refl, sym, ap, ◌∙◌, arith, zero-add, cond}
use Rattle.std.specs.List.{count_by, prefix_len}
use Rattle.std.proofs.lemmas.List.Sums.{sum_by-cons}
use Rattle.interest_pipeline.specs.declared.place.Place.{Place}
use Rattle.interest_pipeline.specs.declared.place.Place.TheVariants.{Answered}
use Rattle.interest_pipeline.specs.Places.{is_answered, is_in_flight, is_lost}

-- `rest` is `places` without an answered segment at the front
pub record IsShorter (places rest : List Place) : Type 0 where
  pub length : length places ≡ length rest + 1
  pub in_flight : count_by is_in_flight places ≡ count_by is_in_flight rest
  pub lost : count_by is_lost places ≡ count_by is_lost rest
  pub front : prefix_len is_answered places ≡ 1 + prefix_len is_answered rest
  pub kept : drop (prefix_len is_answered places) places ≡ drop (prefix_len is_answered rest) rest

answered_front : (rest : List Place) → IsShorter (Answered ∷ rest) rest
answered_front rest = record {
  length = omega arith;
  in_flight = sum_by-cons (λ x. cond (is_in_flight x) 1 0) Answered rest ∙ zero-add _;
  lost = sum_by-cons (λ x. cond (is_lost x) 1 0) Answered rest ∙ zero-add _;
  front = refl;
  kept = ap (λ (n : ℕ). drop n (Answered ∷ rest)) (next (prefix_len is_answered rest));
}
  where
    next : (n : ℕ) → 1 + n ≡ suc n
    next n = omega arith

pub shorter : (places rest : List Place) (x : Place) → 0 < length places → x ≡ get_or places 0 x → x ≡ Answered → rest ≡ drop 1 places → IsShorter places rest
shorter [] rest x some here is e = absurd (omega arith)
shorter (place ∷ places) rest x some here is e =
    let is_place : place ≡ Answered = sym here ∙ is in
    rw (is_place, e) (answered_front places)

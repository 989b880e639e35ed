-- The Data that remain after the least full names are erased, one after another.
use Rattle.std.proofs.Common.{◌≡◌, ℕ, ◌+◌, ◌⊎◌, inl, inr, Bool, true, false, not, ◌&&◌, List, length, get_or, refl, sym, ap, subst, ◌∙◌, arith, All}
use Rattle.std.specs.Prelude.{◌≤◌, Option, None, Some}
use Rattle.std.specs.Option.{unwrap_or}
use Rattle.std.specs.Ordering.{eq_by_cmp}
use Rattle.std.proofs.lemmas.List.Elements.{All-filter, filter_passes}
use Rattle.ndn_tlv.specs.Element.{Field}
use Rattle.ndn_names.specs.Name.{IsPrefix}
use Rattle.ndn_names.specs.Order.{Less, name_cmp}
use Rattle.ndn_names.proofs.OrderLaws.{Less-total}
use Rattle.content_store.specs.Store.{CachedData, Erases, IsLeast, TakesLeast, full_name_of, without}
use Rattle.content_store.proofs.Losses.{all_stay, filter_both}
use Rattle.content_store.proofs.Uses.{is_same, tied}

pub nothing_taken : (name : List Field) (xs : List CachedData) → TakesLeast name xs xs 0
nothing_taken name xs =
    record {
      stays = λ _. true;
      left = all_stay xs;
      counted = omega arith;
      under = λ k d lt e. absurd cc;
      least = λ k d lt e. absurd cc;
    }

gone : (a b : Bool) → (a && not b) ≡ false → (a ≡ false) ⊎ (b ≡ true)
gone true true e = inr refl
gone true false e = absurd cc
gone false b e = inl refl

not_true : (b : Bool) → not b ≡ true → b ≡ false
not_true true e = absurd cc
not_true false e = refl

apart : (a b : List Field) → eq_by_cmp name_cmp a b ≡ false → a ≡ b → ⊥
apart a b f e = (let t = tied a b e in cc)

-- all full names that begin with `name`, except the least of them, are greater than the least of
-- them
others_greater : (name : List Field) (ys : List CachedData) (c : CachedData) → IsLeast (λ d. IsPrefix name (full_name_of d)) ys c
    → All (λ d. IsPrefix name (full_name_of d) → Less (full_name_of c) (full_name_of d)) (without (full_name_of c) ys)
others_greater name ys c least =
    let differs = λ (d : CachedData). not (eq_by_cmp name_cmp (full_name_of d) (full_name_of c)) in
    λ k d lt p.
    let e = get_or (without (full_name_of c) ys) k d in
    let not_less = All-filter differs (λ d. IsPrefix name (full_name_of d) → Less (full_name_of d) (full_name_of c) → ⊥) ys least.none_less k d lt p in
    elim (Less-total (full_name_of c) (full_name_of e)) [
      | inl less ↦ less
      | inr (inl same) ↦ absurd (apart (full_name_of e) (full_name_of c) (not_true _ (filter_passes differs ys k d lt)) (sym same))
      | inr (inr greater) ↦ absurd (not_less greater)
    ]

-- if `TakesLeast` is true for n removed Data, and then the Data `c` with the least remaining full
-- name that begins with `name` is removed too, then `TakesLeast` is true for n + 1 removed Data
pub one_taken : (name : List Field) (xs ys : List CachedData) (n : ℕ) (c : CachedData) → TakesLeast name xs ys n → IsLeast (λ d. IsPrefix name (full_name_of d)) ys c
    → length (without (full_name_of c) ys) + 1 ≡ length ys → TakesLeast name xs (without (full_name_of c) ys) (n + 1)
one_taken name xs ys n c h least fewer =
    let count = h.counted in
    let less : All (λ d. IsPrefix name (full_name_of d) → Less (full_name_of c) (full_name_of d)) (without (full_name_of c) ys) = others_greater name ys c least in
    record {
      stays = λ d. h.stays d && not (eq_by_cmp name_cmp (full_name_of d) (full_name_of c));
      left = ap (without (full_name_of c)) h.left ∙ filter_both h.stays (λ d. not (eq_by_cmp name_cmp (full_name_of d) (full_name_of c))) xs;
      counted = omega arith;
      under =
          λ k d within e. elim (gone _ _ e) [
            | inl old ↦ h.under k d within old
            | inr new ↦ subst (IsPrefix name) (sym (is_same _ _ new)) least.has
          ];
      least =
          λ k d within e. elim (gone _ _ e) [
            | inl old ↦ All-filter (λ e. not (eq_by_cmp name_cmp (full_name_of e) (full_name_of c)))
                (λ e. IsPrefix name (full_name_of e) → Less (full_name_of (get_or xs k d)) (full_name_of e)) ys (h.least k d within old)
            | inr new ↦ subst (λ (m : List Field). All (λ d. IsPrefix name (full_name_of d) → Less m (full_name_of d)) (without (full_name_of c) ys)) (sym (is_same _ _ new)) less
          ];
    }

-- Let at most 65,536 Data be cached, and let n of them be removed, where n ≤ `most`: those with the
-- least full names that begin with `name`. If n is `most`, or no remaining full name begins with
-- `name`, then `Erases` is true. `most` is the count, or 2^64 - 1 if there is no count.
pub erases : (name : List Field) (count : Option ℕ) (xs ys : List CachedData) (n most : ℕ) → most ≡ unwrap_or count 18446744073709551615 → TakesLeast name xs ys n → n ≤ most
    → (n ≡ most) ⊎ All (λ d. IsPrefix name (full_name_of d) → ⊥) ys → length xs ≤ 65536 → Erases name count xs ys n
erases name None xs ys n most is taken le ended few = (
  taken,
  tt,
  elim ended [
    | inl all ↦ absurd (let count = taken.counted in omega arith)
    | inr none ↦ inr none
  ],
)
erases name (Some m) xs ys n most is taken le ended few = (
  taken,
  omega arith,
  elim ended [
    | inl all ↦ inl (ap (λ (k : ℕ). Some k) (sym is ∙ sym all))
    | inr none ↦ inr none
  ],
)

-- The items of a list from an index to the end.
use Rattle.std.proofs.Common.{◌≡◌, ℕ, zero, suc, ◌+◌, ◌-◌, ◌<◌, Bool, cond, List, [], ◌∷◌, drop, filter, refl, sym, ap, ◌∙◌, add-one, arith}
use Rattle.std.specs.Prelude.{None, Some, slice_get, ◌||◌}
use Rattle.std.specs.List.{list_any}

pub back : (n : ℕ) → 0 < n → n - 1 + 1 ≡ n
back n lt = omega (arith, lt)

module _ {X : Type 0} where
  some_injective : (a b : X) → Some a ≡ Some b → a ≡ b
  some_injective a b e = ap (λ o. elim o [ Some x ↦ x | None ↦ a ]) e

  here : (xs : List X) (i : ℕ) (x : X) → slice_get xs i ≡ Some x → drop i xs ≡ x ∷ drop (suc i) xs
  here [] zero x e = (let absurd = e in cc)
  here [] (suc i) x e = (let absurd = e in cc)
  here (y ∷ xs) zero x e = ap (λ z. z ∷ xs) (some_injective y x e)
  here (y ∷ xs) (suc i) x e = here xs i x e

  past : (xs : List X) (i : ℕ) → slice_get xs i ≡ None → drop i xs ≡ drop (suc i) xs
  past [] zero e = refl
  past [] (suc i) e = refl
  past (y ∷ xs) zero e = (let absurd = e in cc)
  past (y ∷ xs) (suc i) e = past xs i e

  pub drop_here : (xs : List X) (i : ℕ) (x : X) → slice_get xs i ≡ Some x → drop i xs ≡ x ∷ drop (i + 1) xs
  drop_here xs i x e = here xs i x e ∙ ap (λ (m : ℕ). x ∷ drop m xs) (sym (add-one i))

  pub drop_past : (xs : List X) (i : ℕ) → slice_get xs i ≡ None → drop i xs ≡ drop (i + 1) xs
  drop_past xs i e = past xs i e ∙ ap (λ (m : ℕ). drop m xs) (sym (add-one i))

  module _ (p : X → Bool) (xs : List X) (i : ℕ) where
    pub any_here : (x : X) (b : Bool) → slice_get xs i ≡ Some x → p x ≡ b → list_any p (drop i xs) ≡ (b || list_any p (drop (i + 1) xs))
    any_here x b e is = ap (list_any p) (drop_here xs i x e) ∙ ap (λ b. b || list_any p (drop (i + 1) xs)) is

    pub any_past : slice_get xs i ≡ None → list_any p (drop i xs) ≡ list_any p (drop (i + 1) xs)
    any_past e = ap (list_any p) (drop_past xs i e)

    pub filter_here : (x : X) (b : Bool) → slice_get xs i ≡ Some x → p x ≡ b → filter p (drop i xs) ≡ cond b (x ∷ filter p (drop (i + 1) xs)) (filter p (drop (i + 1) xs))
    filter_here x b e is = ap (filter p) (drop_here xs i x e) ∙ ap (λ b. cond b (x ∷ filter p (drop (i + 1) xs)) (filter p (drop (i + 1) xs))) is

    pub filter_past : slice_get xs i ≡ None → filter p (drop i xs) ≡ filter p (drop (i + 1) xs)
    filter_past e = ap (filter p) (drop_past xs i e)

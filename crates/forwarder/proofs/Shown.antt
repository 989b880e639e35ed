-- Lists to whose elements a function `view` is applied.
use Rattle.std.proofs.Common.{◌≡◌, Bool, true, false, cond, List, [], ◌∷◌, map, refl, sym, ap, ◌∙◌}
use Rattle.std.specs.Prelude.{filter, ◌||◌, ◌&&◌}
use Rattle.std.specs.List.{list_any}

pub filter-map : {A B : Type 0} (view : A → B) (p : B → Bool) (xs : List A) → filter p (map view xs) ≡ map view (filter (λ x. p (view x)) xs)
filter-map view p [] = refl
filter-map view p (x ∷ xs) =
    elim (p (view x)) as (λ b. cond b (view x ∷ filter p (map view xs)) (filter p (map view xs)) ≡ map view (cond b (x ∷ filter (λ x. p (view x)) xs) (filter (λ x. p (view x)) xs))) [
      | true ↦ ap (λ ys. view x ∷ ys) (filter-map view p xs)
      | false ↦ filter-map view p xs
    ]

-- filtering a list by the test `p` on each element's view, and then applying `view`, gives the list
-- of all views filtered by `p`
pub shown_filter : {A B : Type 0} (view : A → B) (p : B → Bool) (xs ys : List A) → ys ≡ filter (λ x. p (view x)) xs → map view ys ≡ filter p (map view xs)
shown_filter view p xs ys e = ap (map view) e ∙ sym (filter-map view p xs)

pub list_any-map : {A B : Type 0} (view : A → B) (p : B → Bool) (xs : List A) → list_any p (map view xs) ≡ list_any (λ x. p (view x)) xs
list_any-map view p [] = refl
list_any-map view p (x ∷ xs) = ap (λ b. p (view x) || b) (list_any-map view p xs)

-- some element of the list filtered by `q` passes the test `p` exactly if some element of the list
-- passes both tests
pub list_any-filter : {A : Type 0} (p q : A → Bool) (xs : List A) → list_any p (filter q xs) ≡ list_any (λ x. q x && p x) xs
list_any-filter p q [] = refl
list_any-filter p q (x ∷ xs) =
    elim (q x) as (λ b. list_any p (cond b (x ∷ filter q xs) (filter q xs)) ≡ ((b && p x) || list_any (λ x. q x && p x) xs)) [
      | true ↦ ap (λ b. p x || b) (list_any-filter p q xs)
      | false ↦ list_any-filter p q xs
    ]

-- Which faces are collected from hops.
use Rattle.std.proofs.Common.{◌≡◌, ℕ, Bool, true, false, cond, List, [], ◌∷◌, refl, sym, ap, ◌∙◌, ltb, eqb}
use Rattle.std.specs.Prelude.{◌||◌, All, filter}
use Rattle.std.specs.List.{list_any}
use mathlib.Core.Logic.{◌⊎◌, inl, inr, ⊎_elim}
use Rattle.std.proofs.lemmas.Bool.{eqb-true, eq-eqb, or_cases}
use Rattle.std.proofs.lemmas.List.Elements.{All-nil, All-cons, All-weaker, All-head, All-tail}
use Rattle.pit_fib.specs.declared.hops.Hop.{Hop}
use Rattle.pit_fib.specs.FaceSet.{has_face, with_face}
use Rattle.strategies.specs.Choice.{faces_of}

abbrev pub with_one : ℕ → List ℕ → List ℕ
with_one face faces = cond (has_face face faces) faces (with_face face faces)

or_swap : (a b c : Bool) → (a || (b || c)) ≡ (b || (a || c))
or_swap true true c = refl
or_swap true false c = refl
or_swap false true c = refl
or_swap false false c = refl

or_right : (a b : Bool) → b ≡ true → (a || b) ≡ true
or_right true b e = refl
or_right false b e = e

has_with : (f g : ℕ) (l : List ℕ) → has_face f (with_face g l) ≡ (eqb g f || has_face f l)
has_with f g [] = refl
has_with f g (x ∷ l) =
    elim (ltb g x) as (λ b. has_face f (cond b (g ∷ x ∷ l) (x ∷ with_face g l)) ≡ (eqb g f || (eqb x f || has_face f l))) [
      | true ↦ refl
      | false ↦ ap (λ b. eqb x f || b) (has_with f g l) ∙ or_swap (eqb x f) (eqb g f) (has_face f l)
    ]

kept : (f g : ℕ) (l : List ℕ) → has_face f l ≡ true → has_face f (with_one g l) ≡ true
kept f g l e =
    elim (has_face g l) as (λ b. has_face f (cond b l (with_face g l)) ≡ true) [
      | true ↦ e
      | false ↦ has_with f g l ∙ or_right (eqb g f) (has_face f l) e
    ]

added : (g : ℕ) (l : List ℕ) → has_face g (with_one g l) ≡ true
added g l =
    elim (has_face g l) as (λ b. has_face g l ≡ b → has_face g (cond b l (with_face g l)) ≡ true) [
      | true ↦ λ e. e
      | false ↦ λ e. has_with g g l ∙ ap (λ b. b || has_face g l) (eq-eqb g g refl)
    ] refl

one_of : (f g : ℕ) (l : List ℕ) → has_face f (with_one g l) ≡ true → (g ≡ f) ⊎ (has_face f l ≡ true)
one_of f g l =
    elim (has_face g l) as (λ b. has_face f (cond b l (with_face g l)) ≡ true → (g ≡ f) ⊎ (has_face f l ≡ true)) [
      | true ↦ λ e. inr e
      | false ↦ λ e. ⊎_elim (λ s. inl (eqb-true g f s)) (λ r. inr r) (or_cases (eqb g f) (has_face f l) (sym (has_with f g l) ∙ e))
    ]

-- the face of each hop is among the collected faces
pub all_there : (hops : List Hop) → All (λ hop. has_face hop.face (faces_of hops) ≡ true) hops
all_there [] = All-nil (λ hop. has_face hop.face [] ≡ true)
all_there (h ∷ hops) =
    let P = λ (hop : Hop). has_face hop.face (faces_of (h ∷ hops)) ≡ true in
    All-cons P h hops (added h.face (faces_of hops))
    (All-weaker (λ hop. has_face hop.face (faces_of hops) ≡ true) P (λ hop e. kept hop.face h.face (faces_of hops) e) hops (all_there hops))

-- if all hops have a property, each collected face is the face of a hop with that property
pub from_hop : (P : Hop → Type 0) (face : ℕ) (hops : List Hop) → All P hops → has_face face (faces_of hops) ≡ true → (hop : Hop) × P hop × (hop.face ≡ face)
from_hop P face [] all e = (let absurd = e in cc)
from_hop P face (h ∷ hops) all e =
    ⊎_elim (λ is. (h, All-head P h hops all, is)) (λ rest. from_hop P face hops (All-tail P h hops all) rest)
    (one_of face h.face (faces_of hops) e)

pub filter_none : {X : Type 0} (p : X → Bool) (xs : List X) → list_any p xs ≡ false → filter p xs ≡ []
filter_none p [] e = refl
filter_none p (x ∷ xs) e =
    elim (p x) as (λ b. (b || list_any p xs) ≡ false → cond b (x ∷ filter p xs) (filter p xs) ≡ []) [
      | true ↦ λ e. (let absurd = e in cc)
      | false ↦ λ e. filter_none p xs e
    ] e

pub filter_some : {X : Type 0} (p : X → Bool) (xs : List X) → filter p xs ≡ [] → list_any p xs ≡ false
filter_some p [] e = refl
filter_some p (x ∷ xs) e =
    elim (p x) as (λ b. cond b (x ∷ filter p xs) (filter p xs) ≡ [] → (b || list_any p xs) ≡ false) [
      | true ↦ λ e. (let absurd = e in cc)
      | false ↦ λ e. filter_some p xs e
    ] e

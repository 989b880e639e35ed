-- The position of a face in a rising list, or the position at which to insert it.
use Rattle.std.proofs.Common.{◌≡◌, ℕ, suc, ◌+◌, ◌<◌, ◌≤◌, Bool, true, false, cond, List, [], ◌∷◌, ◌++◌, length, get_or, take, drop, refl, sym, ap, subst, ◌∙◌, arith, eqb, ltb}
use Rattle.std.specs.Prelude.{insert, ◌||◌}
use Rattle.std.specs.List.{AllByRecursion}
use Rattle.std.proofs.lemmas.Bool.{lt-ltb, le-ltb, ltb-true, ltb-false, ne_eqb, eq-eqb, eqb-false}
use Rattle.std.proofs.lemmas.List.{take-append-drop, take_all, take_more, append-nil}
use Rattle.std.proofs.Math.Seq.{drop-cons}
use Rattle.pit_fib.specs.FaceSet.{IsRising, has_face, with_face}

abbrev pub AllBelow : ℕ → List ℕ → Type 0
AllBelow f faces = AllByRecursion (λ g. g < f) faces

below_push : (f : ℕ) (faces : List ℕ) (g : ℕ) → AllBelow f faces → g < f → AllBelow f (faces ++ g ∷ [])
below_push f [] g h lt = (lt, tt)
below_push f (x ∷ faces) g h lt = (h.0, below_push f faces g h.1 lt)

pub below_more : (f : ℕ) (faces : List ℕ) (at g : ℕ) → at < length faces → g ≡ get_or faces at g → AllBelow f (take at faces) → g < f → AllBelow f (take (at + 1) faces)
below_more f faces at g lt is h low =
    subst (AllBelow f) (sym (take_more faces at g lt ∙ ap (λ x. take at faces ++ x ∷ []) (sym is))) (below_push f (take at faces) g h low)

-- ---- inserting a face after smaller faces

with_past : (f : ℕ) (front rest : List ℕ) → AllBelow f front → with_face f (front ++ rest) ≡ front ++ with_face f rest
with_past f [] rest h = refl
with_past f (g ∷ front) rest h =
    ap (λ b. cond b (f ∷ g ∷ (front ++ rest)) (g ∷ with_face f (front ++ rest))) (le-ltb f g (let lt = h.0 in omega arith))
    ∙ ap (λ l. g ∷ l) (with_past f front rest h.1)

has_past : (f : ℕ) (front rest : List ℕ) → AllBelow f front → has_face f (front ++ rest) ≡ has_face f rest
has_past f [] rest h = refl
has_past f (g ∷ front) rest h =
    ap (λ b. b || has_face f (front ++ rest)) (ne_eqb g f (λ e. let lt = h.0 in omega (arith, e))) ∙ has_past f front rest h.1

-- ---- inserting a face before greater faces

lacks_above : (f : ℕ) (faces : List ℕ) → AllByRecursion (λ g. f < g) faces → has_face f faces ≡ false
lacks_above f [] h = refl
lacks_above f (g ∷ faces) h = ap (λ b. b || has_face f faces) (ne_eqb g f (λ e. let lt = h.0 in omega (arith, e))) ∙ lacks_above f faces h.1

above_all : (f g : ℕ) (faces : List ℕ) → f < g → AllByRecursion (λ m. g < m) faces → AllByRecursion (λ m. f < m) faces
above_all f g [] lt h = tt
above_all f g (x ∷ faces) lt h = ((let k = h.0 in omega arith), above_all f g faces lt h.1)

rising_rest : (front : List ℕ) (rest : List ℕ) → IsRising (front ++ rest) → IsRising rest
rising_rest [] rest h = h
rising_rest (x ∷ front) rest h = rising_rest front rest h.1

module _ (f : ℕ) (faces : List ℕ) (at g : ℕ) (lt : at < length faces) (is : g ≡ get_or faces at g) (low : AllBelow f (take at faces)) where
  rest_is : drop at faces ≡ g ∷ drop (suc at) faces
  rest_is = drop-cons faces at g lt ∙ ap (λ x. x ∷ drop (suc at) faces) (sym is)

  split : faces ≡ take at faces ++ g ∷ drop (suc at) faces
  split = sym (take-append-drop at faces) ∙ ap (λ l. take at faces ++ l) rest_is

  pub face_found : g ≡ f → has_face f faces ≡ true
  face_found e =
      ap (has_face f) split ∙ has_past f (take at faces) (g ∷ drop (suc at) faces) low
      ∙ ap (λ b. b || has_face f (drop (suc at) faces)) (eq-eqb g f e)

  pub face_absent : f < g → IsRising faces → has_face f faces ≡ false
  face_absent lower rising =
      let rest : IsRising (g ∷ drop (suc at) faces) = rising_rest (take at faces) (g ∷ drop (suc at) faces) (subst IsRising split rising) in
      ap (has_face f) split ∙ has_past f (take at faces) (g ∷ drop (suc at) faces) low
      ∙ lacks_above f (g ∷ drop (suc at) faces) (lower, above_all f g (drop (suc at) faces) lower rest.0)

  pub face_gap : f < g → with_face f faces ≡ insert faces at f
  face_gap lower =
      ap (with_face f) split ∙ with_past f (take at faces) (g ∷ drop (suc at) faces) low
      ∙ ap (λ b. take at faces ++ cond b (f ∷ g ∷ drop (suc at) faces) (g ∷ with_face f (drop (suc at) faces))) (lt-ltb f g lower)
      ∙ ap (λ l. take at faces ++ f ∷ l) (sym rest_is)

module _ (f : ℕ) (faces : List ℕ) (n : ℕ) (le : length faces ≤ n) (low : AllBelow f (take n faces)) where
  all_below : AllBelow f faces
  all_below = subst (AllBelow f) (take_all n faces le) low

  pub end_absent : has_face f faces ≡ false
  end_absent = ap (has_face f) (sym (append-nil faces)) ∙ has_past f faces [] all_below

  pub end_gap : with_face f faces ≡ insert faces (length faces) f
  end_gap =
      ap (with_face f) (sym (append-nil faces)) ∙ with_past f faces [] all_below
      ∙ ap (λ l. l ++ f ∷ []) (sym (take_all (length faces) faces (omega arith)))
      ∙ ap (λ l. take (length faces) faces ++ f ∷ l) (sym (drop_end faces))
    where
      drop_end : (l : List ℕ) → drop (length l) l ≡ []
      drop_end [] = refl
      drop_end (x ∷ l) = drop_end l

-- ---- a rising list is still rising after a face that it lacked is inserted

with_above : (g f : ℕ) (faces : List ℕ) → g < f → AllByRecursion (λ m. g < m) faces → AllByRecursion (λ m. g < m) (with_face f faces)
with_above g f [] lt h = (lt, tt)
with_above g f (x ∷ faces) lt h =
    elim (ltb f x) as (λ b. AllByRecursion (λ m. g < m) (cond b (f ∷ x ∷ faces) (x ∷ with_face f faces))) [ true ↦ (lt, h) | false ↦ (h.0, with_above g f faces lt h.1) ]

pub with_rises : (f : ℕ) (faces : List ℕ) → IsRising faces → has_face f faces ≡ false → IsRising (with_face f faces)
with_rises f [] h out = (tt, tt)
with_rises f (x ∷ faces) h out =
    elim (ltb f x) as (λ b. ltb f x ≡ b → IsRising (cond b (f ∷ x ∷ faces) (x ∷ with_face f faces))) [
      | true ↦ λ e. ((lower e, above_all f x faces (lower e) h.0), h)
      | false ↦ λ e. (with_above x f faces (higher e) h.0, with_rises f faces h.1 (parts out).1)
    ] refl
  where
    lower : ltb f x ≡ true → f < x
    lower e = ltb-true f x e

    parts : (eqb x f || has_face f faces) ≡ false → (eqb x f ≡ false) × (has_face f faces ≡ false)
    parts e = both (eqb x f) (has_face f faces) e
      where
        both : (a b : Bool) → (a || b) ≡ false → (a ≡ false) × (b ≡ false)
        both true b e = absurd cc
        both false b e = (refl, e)

    higher : ltb f x ≡ false → x < f
    higher e = let le = ltb-false f x e in let apart = eqb-false x f (parts out).0 in omega (arith, le, apart)

-- How the faces with an in-record under a key that a Data answers are collected, one by one.
use Rattle.std.proofs.Common.{◌≡◌, ℕ, suc, ◌<◌, Bool, true, false, cond, List, [], ◌∷◌, length, get_or, take, refl, sym, ap, subst, ◌∙◌, arith, eqb, ltb, zero, ◌⊎◌, inl, inr}
use Rattle.std.specs.Prelude.{IsTrue, ◌||◌, nat_le}
use Rattle.std.specs.List.{AllByRecursion, list_any}
use Rattle.std.proofs.lemmas.Bool.{eqb-true}
use Rattle.std.proofs.lemmas.Bool.Decides.{nat_tests}
use Rattle.pit_fib.specs.FaceSet.{AtMost64, IsRising, has_face, with_face, adding}
use Rattle.pit_fib.proofs.RisingFaces.{with_rises}
use Rattle.pit_fib.proofs.PendingFaces.{at_most, room_in_list}

or_turned : (a b c : Bool) → (a || (b || c)) ≡ ((b || c) || a)
or_turned true true c = refl
or_turned true false true = refl
or_turned true false false = refl
or_turned false true c = refl
or_turned false false true = refl
or_turned false false false = refl

pub or_more : (a b c : Bool) → (a || (b || c)) ≡ ((a || b) || c)
or_more true b c = refl
or_more false b c = refl

pub or_true : (a : Bool) → (a || true) ≡ true
or_true true = refl
or_true false = refl

has-with : (f g : ℕ) (faces : List ℕ) → has_face f (with_face g faces) ≡ (has_face f faces || eqb g f)
has-with f g [] = or_false (eqb g f)
  where
    or_false : (a : Bool) → (a || false) ≡ a
    or_false true = refl
    or_false false = refl
has-with f g (h ∷ faces) =
    elim (ltb g h) as (λ b. has_face f (cond b (g ∷ h ∷ faces) (h ∷ with_face g faces)) ≡ ((eqb h f || has_face f faces) || eqb g f)) [
      | true ↦ or_turned (eqb g f) (eqb h f) (has_face f faces)
      | false ↦ ap (λ b. eqb h f || b) (has-with f g faces) ∙ or_more (eqb h f) (has_face f faces) (eqb g f)
    ]

all_has : (faces : List ℕ) → AllByRecursion (λ f. IsTrue (has_face f faces)) faces
all_has [] = tt
all_has (f ∷ faces) = (ap (λ b. b || has_face f faces) (same f), wider f faces faces (all_has faces))
  where
    same : (f : ℕ) → eqb f f ≡ true
    same f = grind (arith, nat_tests)

    wider : (f : ℕ) (whole faces : List ℕ) → AllByRecursion (λ g. IsTrue (has_face g whole)) faces → AllByRecursion (λ g. IsTrue (has_face g (f ∷ whole))) faces
    wider f whole [] h = tt
    wider f whole (g ∷ faces) h = (ap (λ b. eqb f g || b) h.0 ∙ or_true (eqb f g), wider f whole faces h.1)

-- In this module, at most 64 faces have the property `P`. `face` and all faces in `faces` have this
-- property. `face` is added to `faces`.
module _ (P : ℕ → Type 0) (few : AtMost64 P) (face : ℕ) (has : P face) (faces new : List ℕ) (added : Bool) (rising : IsRising faces)
    (all : (f : ℕ) → IsTrue (has_face f faces) → P f) (is : (added, new) ≡ adding face faces) where
  each : (l : List ℕ) → AllByRecursion (λ f. IsTrue (has_face f faces)) l → AllByRecursion P l
  each [] h = tt
  each (f ∷ l) h = (all f h.0, each l h.1)

  few_with : AtMost64 (λ f. P f ⊎ (f ≡ face))
  few_with = at_most (λ f h. either f h) few
    where
      either : (f : ℕ) → P f ⊎ (f ≡ face) → P f
      either f (inl p) = p
      either f (inr same) = subst P (sym same) has

  abbrev if_many : Bool → List ℕ
  if_many b = (cond {A = Bool × List ℕ} b (false, faces) (true, with_face face faces)).1

  abbrev if_has : Bool → List ℕ
  if_has b = (cond {A = Bool × List ℕ} b (true, faces) (cond {A = Bool × List ℕ} (nat_le 64 (length faces)) (false, faces) (true, with_face face faces))).1

  added_is : (b : Bool) → has_face face faces ≡ b → (IsRising new) × ((f : ℕ) → has_face f new ≡ (has_face f faces || eqb face f))
  added_is true there =
      let same : new ≡ faces = ap (λ p. p.1) is ∙ ap (λ b. if_has b) there in
      (subst IsRising (sym same) rising, λ f. ap (has_face f) same ∙ known f (eqb face f) refl)
    where
      known : (f : ℕ) (b : Bool) → eqb face f ≡ b → has_face f faces ≡ (has_face f faces || b)
      known f true e = subst (λ g. has_face g faces ≡ true) (eqb-true face f e) there ∙ sym (or_true (has_face f faces))
      known f false e = or_false (has_face f faces)
        where
          or_false : (a : Bool) → a ≡ (a || false)
          or_false true = refl
          or_false false = refl
  added_is false out =
      let less = room_in_list P face faces few_with rising (each faces (all_has faces)) out in
      let small : nat_le 64 (length faces) ≡ false = grind (arith, nat_tests, less) in
      let one : new ≡ with_face face faces =
      ap (λ p. p.1) is ∙ ap (λ b. if_has b) out ∙ ap (λ b. if_many b) small in
      (subst IsRising (sym one) (with_rises face faces rising out), λ f. ap (has_face f) one ∙ has-with f face faces)

  pub face_added : (IsRising new) × ((f : ℕ) → has_face f new ≡ (has_face f faces || eqb face f))
  face_added = added_is (has_face face faces) refl

pub wider : (a b d : Bool) → (IsTrue b → IsTrue d) → IsTrue (a || b) → IsTrue (a || d)
wider true b d sub e = refl
wider false b d sub e = sub e

-- if one of the first `i` items passes the test, some item of the list passes the test
pub any_first : {X : Type 0} (p : X → Bool) (xs : List X) (i : ℕ) → IsTrue (list_any p (take i xs)) → IsTrue (list_any p xs)
any_first p xs zero e = absurd (differ e)
  where
    differ : false ≡ true → ⊥
    differ e = absurd cc
any_first p [] (suc i) e = e
any_first p (x ∷ xs) (suc i) e = wider (p x) _ _ (any_first p xs i) e

pub any_at : {X : Type 0} (p : X → Bool) (xs : List X) (i : ℕ) (x : X) → i < length xs → x ≡ get_or xs i x → IsTrue (p x) → IsTrue (list_any p xs)
any_at p [] i x lt is e = absurd (omega arith)
any_at p (y ∷ xs) zero x lt is e = ap (λ b. b || list_any p xs) (ap p (sym is) ∙ e)
any_at p (y ∷ xs) (suc i) x lt is e = ap (λ b. p y || b) (any_at p xs i x (omega arith) is e) ∙ or_true (p y)

-- If each face of one ascending list is in another ascending list, the first list is at most as
-- long as the second. A list is ascending if `IsRising` is true of the list.
use Rattle.std.proofs.Common.{◌≡◌, ℕ, ◌<◌, ◌≤◌, true, List, [], ◌∷◌, length, sym, subst, inl, inr, arith}
use Rattle.std.specs.Prelude.{◌⊎◌}
use Rattle.std.specs.List.{AllByRecursion}
use Rattle.std.proofs.lemmas.Bool.{cases_lt}
use Rattle.pit_fib.specs.FaceSet.{IsRising, has_face}
use Rattle.pit_fib.specs.Fib.{HasRoomFor, LeadsTo, Routes}
use Rattle.mgmt_core.specs.Tables.{AllAreUp}

-- each face of the first list is in the second
abbrev pub AreIn : List ℕ → List ℕ → Type 0
AreIn xs ys = AllByRecursion (λ f. has_face f ys ≡ true) xs

-- a face that is in the list `y ∷ ys` and is greater than `y` is in the list `ys`
in_rest : (x y : ℕ) (ys : List ℕ) → y < x → has_face x (y ∷ ys) ≡ true → has_face x ys ≡ true
in_rest x y ys lt h = grind (arith, h)

all_in_rest : (x y : ℕ) (xs ys : List ℕ) → y < x → AllByRecursion (λ m. x < m) xs → AreIn xs (y ∷ ys) → AreIn xs ys
all_in_rest x y [] ys lt above h = tt
all_in_rest x y (z ∷ xs) ys lt above h =
    let first = above.0 in
    (in_rest z y ys (omega (arith, first)) h.0, all_in_rest x y xs ys lt above.1 h.1)

-- if all faces of the list `xs` are greater than the face `x` and are in the list `x ∷ ys`, all
-- faces of `xs` are in the list `ys`
same_first : (x : ℕ) (xs ys : List ℕ) → AllByRecursion (λ m. x < m) xs → AreIn xs (x ∷ ys) → AreIn xs ys
same_first x [] ys above h = tt
same_first x (z ∷ xs) ys above h = (in_rest z x ys above.0 h.0, same_first x xs ys above.1 h.1)

never_below : (x : ℕ) (ys : List ℕ) → AllByRecursion (λ m. x < m) ys → has_face x ys ≡ true → Unit {0} → x < x
never_below x [] above h u = absurd cc
never_below x (y ∷ ys) above h u = let lt = above.0 in never_below x ys above.1 (grind (arith, h, lt)) u

data Placed (x y : ℕ) : Type 0 where
  is_less : x < y → Placed x y
  is_same : x ≡ y → Placed x y
  is_more : y < x → Placed x y

above_all : (x y : ℕ) (ys : List ℕ) → x < y → AllByRecursion (λ m. y < m) ys → AllByRecursion (λ m. x < m) ys
above_all x y [] lt above = tt
above_all x y (z ∷ ys) lt above = let first = above.0 in (omega (arith, first), above_all x y ys lt above.1)

place : (x y : ℕ) → Placed x y
place x y = elim (cases_lt x y) [
  | inl lt ↦ is_less lt
  | inr le ↦ elim (cases_lt y x) [ inl lt ↦ is_more lt | inr le' ↦ is_same (omega arith) ]
]

pub no_longer : (xs ys : List ℕ) → IsRising xs → IsRising ys → AreIn xs ys → length xs ≤ length ys
no_longer [] ys rx ry h = omega arith
no_longer (x ∷ xs) [] rx ry h = absurd (let no = h.0 in cc)
no_longer (x ∷ xs) (y ∷ ys) rx ry h =
    elim (place x y) [
      | is_less lt ↦
          let all : AllByRecursion (λ m. x < m) (y ∷ ys) = (lt, above_all x y ys lt ry.0) in
          let no : x < x = never_below x (y ∷ ys) all h.0 tt in
          absurd (omega arith)
      | is_same e ↦
          let le = no_longer xs ys rx.1 ry.1 (same_first x xs ys rx.0 (subst (λ (z : ℕ). AreIn xs (z ∷ ys)) (sym e) h.1)) in
          omega (arith, le)
      | is_more lt ↦
          let le = no_longer (x ∷ xs) ys rx ry.1 (in_rest x y ys lt h.0, all_in_rest x y xs ys lt rx.0 h.1) in
          omega (arith, le)
    ]

-- if at most 64 faces are up, and each face that has a next hop or a route is up, the table has
-- room for each face that is up
pub has_room : (routes : Routes) (face : ℕ) (up : List ℕ) → length up ≤ 64 → IsRising up → has_face face up ≡ true → AllAreUp routes up → HasRoomFor routes face
has_room routes face up small rising there all faces rises each =
    let le = no_longer faces up rises rising (are_in faces each) in
    omega (arith, le, small)
  where
    is_in : (f : ℕ) → LeadsTo routes f ⊎ (f ≡ face) → has_face f up ≡ true
    is_in f (inl leads) = all f leads
    is_in f (inr same) = subst (λ (g : ℕ). has_face g up ≡ true) (sym same) there

    are_in : (faces : List ℕ) → AllByRecursion (λ f. LeadsTo routes f ⊎ (f ≡ face)) faces → AreIn faces up
    are_in [] h = tt
    are_in (f ∷ faces) h = (is_in f h.0, are_in faces h.1)

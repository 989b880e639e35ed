-- The open faces as two lists of numbers: all open faces, and the Local faces among them.
use Rattle.std.proofs.Common.{◌≡◌, ℕ, suc, zero, ◌+◌, ◌<◌, ◌≤◌, Bool, true, false, cond, not, eqb, ltb, List, [], ◌∷◌, ◌++◌, length, take, Some, refl, sym, ap, subst, ◌∙◌, arith}
use Rattle.std.specs.Prelude.{filter, slice_get, ◌||◌, ◌&&◌}
use Rattle.std.specs.List.{AllByRecursion}
use Rattle.std.proofs.lemmas.Bool.{eqb-true, eqb-false, ne_eqb, eq-eqb, ltb-true, lt-ltb, le-ltb, lt-leb}
use Rattle.std.proofs.lemmas.List.{append-nil}
use Rattle.pit_fib.specs.FaceSet.{IsRising, has_face, adding}
use Rattle.pit_fib.specs.FaceSet as numbers_of
use Rattle.pit_fib.proofs.RisingFaces.{with_rises}
use Rattle.pit_fib.specs.declared.face_set.TheConstants.{MAX_FACES}
use Rattle.forwarder.specs.declared.event.Scope.{Scope}
use Rattle.forwarder.specs.declared.event.Scope.TheVariants.{Local, Far}
use Rattle.forwarder.specs.OpenFaces.{FaceEntry, is_open, find_scope, numbers, with_face, without_entry, scope_in, entries_of, AreOpen}
use Rattle.forwarder.specs.Policy.{is_local_scope, is_far_scope}

-- ---- filtered lists of numbers

pub filter_alike : (p q : ℕ → Bool) (xs : List ℕ) → ((x : ℕ) → p x ≡ q x) → filter p xs ≡ filter q xs
filter_alike p q [] h = refl
filter_alike p q (x ∷ xs) h =
    ap (λ b. cond b (x ∷ filter p xs) (filter p xs)) (h x)
    ∙ ap (λ l. cond (q x) (x ∷ l) l) (filter_alike p q xs h)

pub filter_twice : (p q : ℕ → Bool) (xs : List ℕ) → filter q (filter p xs) ≡ filter (λ x. p x && q x) xs
filter_twice p q [] = refl
filter_twice p q (x ∷ xs) =
    elim (p x) as (λ b. filter q (cond b (x ∷ filter p xs) (filter p xs)) ≡ cond (b && q x) (x ∷ filter (λ x. p x && q x) xs) (filter (λ x. p x && q x) xs)) [
      | true ↦ ap (λ l. cond (q x) (x ∷ l) l) (filter_twice p q xs)
      | false ↦ filter_twice p q xs
    ]

length_filter : (p : ℕ → Bool) (xs : List ℕ) → length (filter p xs) ≤ length xs
length_filter p [] = omega arith
length_filter p (x ∷ xs) =
    elim (p x) as (λ b. length (cond b (x ∷ filter p xs) (filter p xs)) ≤ length (x ∷ xs)) [
      | true ↦ omega (arith, length_filter p xs)
      | false ↦ omega (arith, length_filter p xs)
    ]

-- ---- a list of faces from which one face is removed

abbrev pub but_for : ℕ → List ℕ → List ℕ
but_for f xs = filter (λ g. not (eqb g f)) xs

-- every face of the list is less than `f`
abbrev AllBelow : ℕ → List ℕ → Type 0
AllBelow f xs = AllByRecursion (λ g. g < f) xs

last_absent : (f : ℕ) (xs : List ℕ) → AllBelow f xs → has_face f xs ≡ false
last_absent f [] h = refl
last_absent f (x ∷ xs) h =
    let first : x < f = h.0 in
    ap (λ b. b || has_face f xs) (ne_eqb x f (λ e. omega (arith, e, first))) ∙ last_absent f xs h.1

last_with : (f : ℕ) (xs : List ℕ) → AllBelow f xs → numbers_of.with_face f xs ≡ xs ++ f ∷ []
last_with f [] h = refl
last_with f (x ∷ xs) h =
    let first : x < f = h.0 in
    ap (λ b. cond b (f ∷ x ∷ xs) (x ∷ numbers_of.with_face f xs)) (le-ltb f x (omega (arith, first)))
    ∙ ap (λ l. x ∷ l) (last_with f xs h.1)

added_last : (f : ℕ) (xs : List ℕ) → AllBelow f xs → length xs < MAX_FACES → (adding f xs).1 ≡ xs ++ f ∷ []
added_last f xs h lt =
    rw (last_absent f xs h, lt-leb MAX_FACES (length xs) lt) (last_with f xs h)

All_weaker : (a b : ℕ) (xs : List ℕ) → a < b → AllByRecursion (λ m. b < m) xs → AllByRecursion (λ m. a < m) xs
All_weaker a b [] lt h = tt
All_weaker a b (x ∷ xs) lt h = let first : b < x = h.0 in (omega (arith, first), All_weaker a b xs lt h.1)

above_at : (a : ℕ) (xs : List ℕ) (i x : ℕ) → AllByRecursion (λ m. a < m) xs → slice_get xs i ≡ Some x → a < x
above_at a [] i x h e = cc
above_at a (y ∷ ys) zero x h e = let first : a < y = h.0 in let is : Some y ≡ Some x = e in subst (λ z. a < z) (inside y x is) first
  where
    inside : (y x : ℕ) → Some y ≡ Some x → y ≡ x
    inside y x e = cc
above_at a (y ∷ ys) (suc i) x h e = above_at a ys i x h.1 e

below_here : (f : ℕ) (xs : List ℕ) (i x : ℕ) → IsRising xs → slice_get xs i ≡ Some x → AllBelow x (but_for f (take i xs))
below_here f [] i x rising e = cc
below_here f (y ∷ ys) zero x rising e = tt
below_here f (y ∷ ys) (suc i) x rising e =
    elim (not (eqb y f)) as (λ b. AllBelow x (cond b (y ∷ but_for f (take i ys)) (but_for f (take i ys)))) [
      | true ↦ (above_at y ys i x rising.0 e, below_here f ys i x rising.1 e)
      | false ↦ below_here f ys i x rising.1 e
    ]

length_here : (xs : List ℕ) (i : ℕ) → length (take i xs) ≤ i
length_here [] zero = omega arith
length_here [] (suc i) = omega arith
length_here (x ∷ xs) zero = omega arith
length_here (x ∷ xs) (suc i) = omega (arith, length_here xs i)

more_here : (f : ℕ) (xs : List ℕ) (i x : ℕ) → slice_get xs i ≡ Some x → but_for f (take (suc i) xs) ≡ but_for f (take i xs) ++ cond (not (eqb x f)) (x ∷ []) []
more_here f [] i x e = cc
more_here f (y ∷ ys) zero x e = rw (inside y x e) refl
  where
    inside : (y x : ℕ) → Some y ≡ Some x → y ≡ x
    inside y x e = cc
more_here f (y ∷ ys) (suc i) x e =
    elim (not (eqb y f)) as (λ b. cond b (y ∷ but_for f (take (suc i) ys)) (but_for f (take (suc i) ys)) ≡ cond b (y ∷ but_for f (take i ys)) (but_for f (take i ys)) ++ cond (not (eqb x f)) (x ∷ []) []) [
      | true ↦ ap (λ l. y ∷ l) (more_here f ys i x e)
      | false ↦ more_here f ys i x e
    ]

one_more : (i : ℕ) → suc i ≡ i + 1
one_more i = omega arith

-- Let `xs` be in rising order, and let `i` be less than 64. Let `rest` be the faces before index
-- `i`, without `f`. If the face at index `i` is not `f`, then adding this face to `rest` gives the
-- faces before index `i + 1`, without `f`.
pub kept_here : (f : ℕ) (xs : List ℕ) (i x : ℕ) (rest new : List ℕ) → IsRising xs → slice_get xs i ≡ Some x → i < MAX_FACES → rest ≡ but_for f (take i xs) → eqb x f ≡ false → new ≡ (adding x rest).1 → new ≡ but_for f (take (i + 1) xs)
kept_here f xs i x rest new rising at lt was apart is =
    let few : length (but_for f (take i xs)) < MAX_FACES = omega (arith, length_filter (λ g. not (eqb g f)) (take i xs), length_here xs i, lt) in
    is ∙ ap (λ l. (adding x l).1) was ∙ added_last x (but_for f (take i xs)) (below_here f xs i x rising at) few
    ∙ ap (λ b. but_for f (take i xs) ++ cond (not b) (x ∷ []) []) (sym apart) ∙ sym (more_here f xs i x at)
    ∙ ap (λ m. but_for f (take m xs)) (one_more i)

-- Let `rest` be the faces before index `i`, without `f`. If the face at index `i` is `f`, then
-- `rest` is also the list of the faces before index `i + 1`, without `f`.
pub left_out : (f : ℕ) (xs : List ℕ) (i x : ℕ) (rest : List ℕ) → slice_get xs i ≡ Some x → rest ≡ but_for f (take i xs) → eqb x f ≡ true → rest ≡ but_for f (take (i + 1) xs)
left_out f xs i x rest at was same =
    was ∙ sym (append-nil (but_for f (take i xs))) ∙ ap (λ b. but_for f (take i xs) ++ cond (not b) (x ∷ []) []) (sym same) ∙ sym (more_here f xs i x at)
    ∙ ap (λ m. but_for f (take m xs)) (one_more i)

-- ---- the entries made from the list of all open faces and the list of Local faces

pub numbers_of_entries : (all local : List ℕ) → numbers (entries_of all local) ≡ all
numbers_of_entries [] local = refl
numbers_of_entries (f ∷ all) local = ap (λ l. f ∷ l) (numbers_of_entries all local)

pub length_of_entries : (all local : List ℕ) → length (entries_of all local) ≡ length all
length_of_entries [] local = refl
length_of_entries (f ∷ all) local = ap suc (length_of_entries all local)

pub open_in_entries : (face : ℕ) (all local : List ℕ) → is_open face (entries_of all local) ≡ has_face face all
open_in_entries face [] local = refl
open_in_entries face (f ∷ all) local = ap (λ b. eqb f face || b) (open_in_entries face all local)

pub far_in_entries : (face : ℕ) (all local : List ℕ) → is_far_scope (find_scope face (entries_of all local)) ≡ (has_face face all && not (has_face face local))
far_in_entries face [] local = refl
far_in_entries face (f ∷ all) local =
    elim (eqb f face) as (λ b. eqb f face ≡ b → is_far_scope (cond b (Some (scope_in local f)) (find_scope face (entries_of all local))) ≡ ((b || has_face face all) && not (has_face face local))) [
      | true ↦ λ e. far_here (has_face f local) ∙ ap (λ g. not (has_face g local)) (eqb-true f face e)
      | false ↦ λ e. far_in_entries face all local
    ] refl
  where
    far_here : (b : Bool) → is_far_scope (Some (cond b Local Far)) ≡ not b
    far_here true = refl
    far_here false = refl

pub locals_in_entries : (all local : List ℕ) → numbers (filter (λ entry. is_local_scope entry.1) (entries_of all local)) ≡ filter (λ f. has_face f local) all
locals_in_entries [] local = refl
locals_in_entries (f ∷ all) local =
    elim (has_face f local) as (λ b. numbers (cond (is_local_scope (cond b Local Far)) ((f, cond b Local Far) ∷ filter (λ entry. is_local_scope entry.1) (entries_of all local)) (filter (λ entry. is_local_scope entry.1) (entries_of all local))) ≡ cond b (f ∷ filter (λ g. has_face g local) all) (filter (λ g. has_face g local) all)) [
      | true ↦ ap (λ l. f ∷ l) (locals_in_entries all local)
      | false ↦ locals_in_entries all local
    ]

-- ---- how opening a face changes the list of all open faces and the list of Local faces

or_absurd : {A : Type 0} → false ≡ true → A
or_absurd e = absurd cc

pub has-with_face : (g f : ℕ) (xs : List ℕ) → has_face g (numbers_of.with_face f xs) ≡ (eqb f g || has_face g xs)
has-with_face g f [] = refl
has-with_face g f (x ∷ xs) =
    elim (ltb f x) as (λ b. has_face g (cond b (f ∷ x ∷ xs) (x ∷ numbers_of.with_face f xs)) ≡ (eqb f g || (eqb x g || has_face g xs))) [
      | true ↦ refl
      | false ↦ ap (λ b. eqb x g || b) (has-with_face g f xs) ∙ swapped (eqb x g) (eqb f g) (has_face g xs)
    ]
  where
    swapped : (a b c : Bool) → (a || (b || c)) ≡ (b || (a || c))
    swapped true true c = refl
    swapped true false c = refl
    swapped false true c = refl
    swapped false false c = refl

-- if `f` is not in the list `x ∷ xs`, then `f` is not `x`, and `f` is not in `xs`
absent_parts : (f x : ℕ) (xs : List ℕ) → has_face f (x ∷ xs) ≡ false → (eqb x f ≡ false) × (has_face f xs ≡ false)
absent_parts f x xs e = both (eqb x f) (has_face f xs) e
  where
    both : (a b : Bool) → (a || b) ≡ false → (a ≡ false) × (b ≡ false)
    both true b e = absurd cc
    both false b e = (refl, e)

-- each face other than `f` is in both lists or in neither
abbrev SameElsewhere : ℕ → List ℕ → List ℕ → Type 0
SameElsewhere f old new = (g : ℕ) → eqb g f ≡ false → has_face g new ≡ has_face g old

entries_alike : (f : ℕ) (all old new : List ℕ) → has_face f all ≡ false → SameElsewhere f old new → entries_of all new ≡ entries_of all old
entries_alike f [] old new out same = refl
entries_alike f (x ∷ xs) old new out same =
    let h = absent_parts f x xs out in
    ap (λ b. (x, cond b Local Far) ∷ entries_of xs new) (same x h.0) ∙ ap (λ l. (x, scope_in old x) ∷ l) (entries_alike f xs old new h.1 same)

entries_with : (f : ℕ) (scope : Scope) (all old new : List ℕ) → has_face f all ≡ false → SameElsewhere f old new → scope_in new f ≡ scope
    → entries_of (numbers_of.with_face f all) new ≡ with_face f scope (entries_of all old)
entries_with f scope [] old new out same is = ap (λ s. (f, s) ∷ []) is
entries_with f scope (x ∷ xs) old new out same is =
    let h = absent_parts f x xs out in
    elim (ltb f x) as (λ b. entries_of (cond b (f ∷ x ∷ xs) (x ∷ numbers_of.with_face f xs)) new ≡ cond b ((f, scope) ∷ entries_of (x ∷ xs) old) ((x, scope_in old x) ∷ with_face f scope (entries_of xs old))) [
      | true ↦ ap (λ s. (f, s) ∷ entries_of (x ∷ xs) new) is ∙ ap (λ l. (f, scope) ∷ l) (entries_alike f (x ∷ xs) old new out same)
      | false ↦ ap (λ b. (x, cond b Local Far) ∷ entries_of (numbers_of.with_face f xs) new) (same x h.0) ∙ ap (λ l. (x, scope_in old x) ∷ l) (entries_with f scope xs old new h.1 same is)
    ]

-- adding a face that fails the test does not change the filtered list
filter-with_out : (p : ℕ → Bool) (f : ℕ) (xs : List ℕ) → p f ≡ false → filter p (numbers_of.with_face f xs) ≡ filter p xs
filter-with_out p f [] e = ap (λ b. cond b (f ∷ []) []) e
filter-with_out p f (x ∷ xs) e =
    elim (ltb f x) as (λ b. filter p (cond b (f ∷ x ∷ xs) (x ∷ numbers_of.with_face f xs)) ≡ filter p (x ∷ xs)) [
      | true ↦ ap (λ b. cond b (f ∷ filter p (x ∷ xs)) (filter p (x ∷ xs))) e
      | false ↦ ap (λ l. cond (p x) (x ∷ l) l) (filter-with_out p f xs e)
    ]

with_first : (f : ℕ) (xs : List ℕ) → AllByRecursion (λ m. f < m) xs → numbers_of.with_face f xs ≡ f ∷ xs
with_first f [] h = refl
with_first f (x ∷ xs) h =
    let first : f < x = h.0 in
    ap (λ b. cond b (f ∷ x ∷ xs) (x ∷ numbers_of.with_face f xs)) (lt-ltb f x first)

above_filter : (a : ℕ) (p : ℕ → Bool) (xs : List ℕ) → AllByRecursion (λ m. a < m) xs → AllByRecursion (λ m. a < m) (filter p xs)
above_filter a p [] h = tt
above_filter a p (x ∷ xs) h =
    elim (p x) as (λ b. AllByRecursion (λ m. a < m) (cond b (x ∷ filter p xs) (filter p xs))) [
      | true ↦ (h.0, above_filter a p xs h.1)
      | false ↦ above_filter a p xs h.1
    ]

filter-with_in : (p : ℕ → Bool) (f : ℕ) (xs : List ℕ) → IsRising xs → p f ≡ true → filter p (numbers_of.with_face f xs) ≡ numbers_of.with_face f (filter p xs)
filter-with_in p f [] rising e = ap (λ b. cond b (f ∷ []) []) e
filter-with_in p f (x ∷ xs) rising e =
    elim (ltb f x) as (λ b. ltb f x ≡ b → filter p (cond b (f ∷ x ∷ xs) (x ∷ numbers_of.with_face f xs)) ≡ numbers_of.with_face f (filter p (x ∷ xs))) [
      | true ↦ λ t.
          let lt : f < x = ltb-true f x t in
          ap (λ b. cond b (f ∷ filter p (x ∷ xs)) (filter p (x ∷ xs))) e
          ∙ sym (with_first f (filter p (x ∷ xs)) (above_filter f p (x ∷ xs) (lt, All_weaker f x xs lt rising.0)))
      | false ↦ λ t.
          ap (λ l. cond (p x) (x ∷ l) l) (filter-with_in p f xs rising.1 e)
          ∙ elim (p x) as (λ b. cond b (x ∷ numbers_of.with_face f (filter p xs)) (numbers_of.with_face f (filter p xs)) ≡ numbers_of.with_face f (cond b (x ∷ filter p xs) (filter p xs))) [
            | true ↦ sym (ap (λ b. cond b (f ∷ x ∷ filter p xs) (x ∷ numbers_of.with_face f (filter p xs))) t)
            | false ↦ refl
          ]
    ] refl

filter_alike_there : (f : ℕ) (p q : ℕ → Bool) (xs : List ℕ) → has_face f xs ≡ false → ((g : ℕ) → eqb g f ≡ false → p g ≡ q g) → filter p xs ≡ filter q xs
filter_alike_there f p q [] out h = refl
filter_alike_there f p q (x ∷ xs) out h =
    let r = absent_parts f x xs out in
    ap (λ b. cond b (x ∷ filter p xs) (filter p xs)) (h x r.0)
    ∙ ap (λ l. cond (q x) (x ∷ l) l) (filter_alike_there f p q xs r.1 h)

absent_filter : (f : ℕ) (p : ℕ → Bool) (xs : List ℕ) → has_face f xs ≡ false → has_face f (filter p xs) ≡ false
absent_filter f p [] out = refl
absent_filter f p (x ∷ xs) out =
    let r = absent_parts f x xs out in
    elim (p x) as (λ b. has_face f (cond b (x ∷ filter p xs) (filter p xs)) ≡ false) [
      | true ↦ ap (λ b. b || has_face f (filter p xs)) r.0 ∙ absent_filter f p xs r.1
      | false ↦ absent_filter f p xs r.1
    ]

module _ (f : ℕ) (all local : List ℕ) (are : AreOpen all local) (out : has_face f all ≡ false) where
  pub not_local : has_face f local ≡ false
  not_local = ap (has_face f) are ∙ absent_filter f (λ g. has_face g local) all out

  pub few_local : length all < MAX_FACES → length local < MAX_FACES
  few_local lt = omega (arith, ap length are, length_filter (λ g. has_face g local) all, lt)

  -- `AreOpen` remains true when a face with the scope Far opens
  pub far_opens : AreOpen (numbers_of.with_face f all) local
  far_opens = are ∙ sym (filter-with_out (λ g. has_face g local) f all not_local)

  pub far_entries : entries_of (numbers_of.with_face f all) local ≡ with_face f Far (entries_of all local)
  far_entries = entries_with f Far all local local out (λ g e. refl) (ap (λ b. cond b Local Far) not_local)

  -- adding the face `f` to the Local faces changes nothing for faces other than `f`
  same_elsewhere : SameElsewhere f local (numbers_of.with_face f local)
  same_elsewhere g e = has-with_face g f local ∙ ap (λ b. b || has_face g local) (apart g e)
    where
      apart : (g : ℕ) → eqb g f ≡ false → eqb f g ≡ false
      apart g e = ne_eqb f g (λ is. eqb-false g f e (sym is))

  is_local_now : has_face f (numbers_of.with_face f local) ≡ true
  is_local_now = has-with_face f f local ∙ ap (λ b. b || has_face f local) (eq-eqb f f refl)

  pub local_opens : IsRising all → AreOpen (numbers_of.with_face f all) (numbers_of.with_face f local)
  local_opens rising =
      let new = numbers_of.with_face f local in
      ap (numbers_of.with_face f) are
      ∙ ap (numbers_of.with_face f) (sym (filter_alike_there f (λ g. has_face g new) (λ g. has_face g local) all out same_elsewhere))
      ∙ sym (filter-with_in (λ g. has_face g new) f all rising is_local_now)

  pub local_entries : entries_of (numbers_of.with_face f all) (numbers_of.with_face f local) ≡ with_face f Local (entries_of all local)
  local_entries = entries_with f Local all local (numbers_of.with_face f local) out same_elsewhere (ap (λ b. cond b Local Far) is_local_now)

-- if a list has fewer than 64 faces and does not contain the face `f`, then `adding` inserts `f`
-- into the list
pub added_new : (f : ℕ) (xs : List ℕ) → has_face f xs ≡ false → length xs < MAX_FACES → (adding f xs).1 ≡ numbers_of.with_face f xs
added_new f xs out lt = rw (out, lt-leb MAX_FACES (length xs) lt) refl

-- ---- how closing a face changes the list of all open faces and the list of Local faces

has-but_for : (g f : ℕ) (xs : List ℕ) → has_face g (but_for f xs) ≡ (not (eqb g f) && has_face g xs)
has-but_for g f [] = none (not (eqb g f))
  where
    none : (b : Bool) → false ≡ (b && false)
    none true = refl
    none false = refl
has-but_for g f (x ∷ xs) =
    elim (eqb x f) as (λ b. eqb x f ≡ b → has_face g (cond (not b) (x ∷ but_for f xs) (but_for f xs)) ≡ (not (eqb g f) && (eqb x g || has_face g xs))) [
      | true ↦ λ t. has-but_for g f xs ∙ gone (eqb-true x f t)
      | false ↦ λ t. ap (λ b. eqb x g || b) (has-but_for g f xs) ∙ stays t
    ] refl
  where
    gone : x ≡ f → (not (eqb g f) && has_face g xs) ≡ (not (eqb g f) && (eqb x g || has_face g xs))
    gone is = elim (eqb g f) as (λ b. eqb g f ≡ b → (not b && has_face g xs) ≡ (not b && (eqb x g || has_face g xs))) [
      | true ↦ λ _. refl
      | false ↦ λ u. sym (ap (λ b. b || has_face g xs) (ne_eqb x g (λ e. eqb-false g f u (sym e ∙ is))))
    ] refl

    stays : eqb x f ≡ false → (eqb x g || (not (eqb g f) && has_face g xs)) ≡ (not (eqb g f) && (eqb x g || has_face g xs))
    stays t = elim (eqb g f) as (λ b. eqb g f ≡ b → (eqb x g || (not b && has_face g xs)) ≡ (not b && (eqb x g || has_face g xs))) [
      | true ↦ λ u. ap (λ b. b || false) (ne_eqb x g (λ e. eqb-false x f t (e ∙ eqb-true g f u)))
      | false ↦ λ _. refl
    ] refl

pub closed_stay : (f : ℕ) (all local : List ℕ) → AreOpen all local → AreOpen (but_for f all) (but_for f local)
closed_stay f all local are =
    ap (but_for f) are
    ∙ filter_twice (λ g. has_face g local) (λ g. not (eqb g f)) all
    ∙ filter_alike (λ g. has_face g local && not (eqb g f)) (λ g. not (eqb g f) && has_face g (but_for f local)) all same
    ∙ sym (filter_twice (λ g. not (eqb g f)) (λ g. has_face g (but_for f local)) all)
  where
    turned : (a b : Bool) → (a && b) ≡ (b && (b && a))
    turned true true = refl
    turned true false = refl
    turned false true = refl
    turned false false = refl

    same : (g : ℕ) → (has_face g local && not (eqb g f)) ≡ (not (eqb g f) && has_face g (but_for f local))
    same g = turned (has_face g local) (not (eqb g f)) ∙ ap (λ b. not (eqb g f) && b) (sym (has-but_for g f local))

pub closed_entries : (f : ℕ) (all local : List ℕ) → entries_of (but_for f all) (but_for f local) ≡ without_entry f (entries_of all local)
closed_entries f [] local = refl
closed_entries f (x ∷ xs) local =
    elim (eqb x f) as (λ b. eqb x f ≡ b → entries_of (cond (not b) (x ∷ but_for f xs) (but_for f xs)) (but_for f local) ≡ cond (not b) ((x, scope_in local x) ∷ without_entry f (entries_of xs local)) (without_entry f (entries_of xs local))) [
      | true ↦ λ t. closed_entries f xs local
      | false ↦ λ t. ap (λ b. (x, cond b Local Far) ∷ entries_of (but_for f xs) (but_for f local)) (has-but_for x f local ∙ ap (λ b. not b && has_face x local) t)
          ∙ ap (λ l. (x, scope_in local x) ∷ l) (closed_entries f xs local)
    ] refl

-- ---- what opening and closing do to the entries

module _ (f : ℕ) (entries : List FaceEntry) (all local new : List ℕ) (shown : entries_of all local ≡ entries) (are : AreOpen all local) where
  pub closed_shown : (new_local : List ℕ) → new ≡ but_for f all → new_local ≡ but_for f local → entries_of new new_local ≡ without_entry f entries
  closed_shown new_local is is_local = rw (is, is_local) (closed_entries f all local ∙ ap (without_entry f) shown)

  pub closed_are : (new_local : List ℕ) → new ≡ but_for f all → new_local ≡ but_for f local → AreOpen new new_local
  closed_are new_local is is_local = rw (is, is_local) (closed_stay f all local are)

  module _ (closed : is_open f entries ≡ false) (room : length entries < MAX_FACES) (b : Bool) (is : (b, new) ≡ adding f all) where
    out : has_face f all ≡ false
    out = sym (open_in_entries f all local) ∙ ap (is_open f) shown ∙ closed

    room_in_all : length all < MAX_FACES
    room_in_all = omega (arith, length_of_entries all local, ap (λ es. length {A = FaceEntry} es) shown, room)

    new_is : new ≡ numbers_of.with_face f all
    new_is = ap (λ p. p.1) is ∙ added_new f all out room_in_all

    pub rises : IsRising all → IsRising new
    rises rising = subst IsRising (sym new_is) (with_rises f all rising out)

    pub far_are : AreOpen new local
    far_are = subst (λ l. AreOpen l local) (sym new_is) (far_opens f all local are out)

    pub far_shown : (scope : Scope) → scope ≡ Far → entries_of new local ≡ with_face f scope entries
    far_shown scope s =
        ap (λ l. entries_of l local) new_is ∙ far_entries f all local are out
        ∙ ap (with_face f Far) shown ∙ ap (λ x. with_face f x entries) (sym s)

    module _ (new_local : List ℕ) (c : Bool) (is_local : (c, new_local) ≡ adding f local) where
      new_local_is : new_local ≡ numbers_of.with_face f local
      new_local_is = ap (λ p. p.1) is_local ∙ added_new f local (not_local f all local are out) (few_local f all local are out room_in_all)

      pub local_are : IsRising all → AreOpen new new_local
      local_are rising = rw (new_is, new_local_is) (local_opens f all local are out rising)

      pub local_shown : (scope : Scope) → scope ≡ Local → entries_of new new_local ≡ with_face f scope entries
      local_shown scope s =
          ap (λ l. entries_of l new_local) new_is ∙ ap (entries_of (numbers_of.with_face f all)) new_local_is
          ∙ local_entries f all local are out
          ∙ ap (with_face f Local) shown ∙ ap (λ x. with_face f x entries) (sym s)

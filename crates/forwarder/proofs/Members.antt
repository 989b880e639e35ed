-- The elements of filtered lists and of concatenated lists, and how adding or removing a face
-- changes the list of open faces.
use Rattle.std.proofs.Common.{◌≡◌, ℕ, suc, ◌+◌, ◌<◌, ◌≤◌, ◌⊎◌, Bool, true, false, cond, not, eqb, ltb, List, [], ◌∷◌, ◌++◌, length, Option, Some, None, refl, sym, ap, subst, ◌∙◌, arith, inl, inr}
use Rattle.std.specs.Prelude.{filter, ◌||◌}
use Rattle.std.specs.List.{list_any, AllByRecursion}
use Rattle.std.proofs.lemmas.Bool.{eqb-true, eqb-false, ne_eqb, ltb-false, ltb-true}
use Rattle.forwarder.specs.declared.event.Scope.{Scope}
use Rattle.pit_fib.specs.FaceSet.{IsRising}
use Rattle.forwarder.specs.OpenFaces.{FaceEntry, is_open, find_scope, numbers}
use Rattle.forwarder.specs.OpenFaces.{with_face, without_entry}

-- `x` is an element of the list
abbrev pub IsIn : {A : Type 0} → A → List A → Type 0
IsIn x [] = ⊥
IsIn x (y ∷ ys) = (y ≡ x) ⊎ IsIn x ys

-- an element of the filtered list `filter p xs` is in `xs`, and passes the test `p`
pub IsIn-filter_from : {A : Type 0} (p : A → Bool) (x : A) (xs : List A) → IsIn x (filter p xs) → IsIn x xs × (p x ≡ true)
IsIn-filter_from p x [] h = absurd h
IsIn-filter_from p x (y ∷ ys) h =
    elim (p y) as (λ b. p y ≡ b → IsIn x (cond b (y ∷ filter p ys) (filter p ys)) → IsIn x (y ∷ ys) × (p x ≡ true)) [
      | true ↦ λ e h. elim h [
        | inl is ↦ (inl is, subst (λ z. p z ≡ true) is e)
        | inr among ↦ let r = IsIn-filter_from p x ys among in (inr r.0, r.1)
      ]
      | false ↦ λ e h. let r = IsIn-filter_from p x ys h in (inr r.0, r.1)
    ] refl h

pub false_is_not_true : false ≡ true → ⊥
false_is_not_true e = cc

pub IsIn-filter_to : {A : Type 0} (p : A → Bool) (x : A) (xs : List A) → IsIn x xs → p x ≡ true → IsIn x (filter p xs)
IsIn-filter_to p x [] h e = absurd h
IsIn-filter_to p x (y ∷ ys) h e =
    elim (p y) as (λ b. p y ≡ b → IsIn x (cond b (y ∷ filter p ys) (filter p ys))) [
      | true ↦ λ t. elim h [
        | inl is ↦ inl is
        | inr among ↦ inr (IsIn-filter_to p x ys among e)
      ]
      | false ↦ λ t. elim h [
        | inl is ↦ absurd (false_is_not_true (sym t ∙ subst (λ z. p z ≡ true) (sym is) e))
        | inr among ↦ IsIn-filter_to p x ys among e
      ]
    ] refl

pub IsIn-append_left : {A : Type 0} (x : A) (xs ys : List A) → IsIn x xs → IsIn x (xs ++ ys)
IsIn-append_left x [] ys h = absurd h
IsIn-append_left x (z ∷ xs) ys h = elim h [ inl is ↦ inl is | inr among ↦ inr (IsIn-append_left x xs ys among) ]

pub IsIn-append_right : {A : Type 0} (x : A) (xs ys : List A) → IsIn x ys → IsIn x (xs ++ ys)
IsIn-append_right x [] ys h = h
IsIn-append_right x (z ∷ xs) ys h = inr (IsIn-append_right x xs ys h)

pub IsIn-append_from : {A : Type 0} (x : A) (xs ys : List A) → IsIn x (xs ++ ys) → IsIn x xs ⊎ IsIn x ys
IsIn-append_from x [] ys h = inr h
IsIn-append_from x (z ∷ xs) ys h =
    elim h [
      | inl is ↦ inl (inl is)
      | inr among ↦ elim (IsIn-append_from x xs ys among) [ inl l ↦ inl (inr l) | inr r ↦ inr r ]
    ]

AllByRecursion-filter : (P : ℕ → Type 0) (p : ℕ → Bool) (xs : List ℕ) → AllByRecursion P xs → AllByRecursion P (filter p xs)
AllByRecursion-filter P p [] h = h
AllByRecursion-filter P p (x ∷ xs) h =
    elim (p x) as (λ b. AllByRecursion P (cond b (x ∷ filter p xs) (filter p xs))) [
      | true ↦ (h.0, AllByRecursion-filter P p xs h.1)
      | false ↦ AllByRecursion-filter P p xs h.1
    ]

pub IsRising-filter : (p : ℕ → Bool) (xs : List ℕ) → IsRising xs → IsRising (filter p xs)
IsRising-filter p [] h = h
IsRising-filter p (x ∷ xs) h =
    elim (p x) as (λ b. IsRising (cond b (x ∷ filter p xs) (filter p xs))) [
      | true ↦ (AllByRecursion-filter (λ m. x < m) p xs h.0, IsRising-filter p xs h.1)
      | false ↦ IsRising-filter p xs h.1
    ]

pub any_from : {A : Type 0} (p : A → Bool) (xs : List A) → list_any p xs ≡ true → (x : A) × IsIn x xs × (p x ≡ true)
any_from p [] e = absurd (false_is_not_true e)
any_from p (x ∷ xs) e =
    elim (p x) as (λ b. p x ≡ b → (b || list_any p xs) ≡ true → (y : _) × IsIn y (x ∷ xs) × (p y ≡ true)) [
      | true ↦ λ t _. (x, inl refl, t)
      | false ↦ λ t e. let r = any_from p xs e in (r.0, inr r.1, r.2)
    ] refl e

pub any_to : {A : Type 0} (p : A → Bool) (x : A) (xs : List A) → IsIn x xs → p x ≡ true → list_any p xs ≡ true
any_to p x [] h e = absurd h
any_to p x (y ∷ ys) h e =
    elim (p y) as (λ b. p y ≡ b → (b || list_any p ys) ≡ true) [
      | true ↦ λ _. refl
      | false ↦ λ t. elim h [
        | inl is ↦ absurd (false_is_not_true (sym t ∙ subst (λ z. p z ≡ true) (sym is) e))
        | inr among ↦ any_to p x ys among e
      ]
    ] refl

-- ---- how adding or removing a face changes the list of open faces

none_is_not_some : {A : Type 0} (x : A) → None ≡ Some x → ⊥
none_is_not_some x e = cc

-- a face that is not found in a list is not the face of the first entry, and is not found in the
-- other entries
not_first : (f : ℕ) (entry : FaceEntry) (faces : List FaceEntry) → find_scope f (entry ∷ faces) ≡ None → (entry.0 ≡ f → ⊥) × (find_scope f faces ≡ None)
not_first f entry faces e =
    elim (eqb entry.0 f) as (λ b. eqb entry.0 f ≡ b → cond b (Some entry.1) (find_scope f faces) ≡ None → (entry.0 ≡ f → ⊥) × (find_scope f faces ≡ None)) [
      | true ↦ λ t e. absurd (none_is_not_some entry.1 (sym e))
      | false ↦ λ t e. (eqb-false entry.0 f t, e)
    ] refl e

swapped : (f a g : ℕ) (s t : Scope) (rest : Option Scope) → (a ≡ f → ⊥) → cond (eqb a g) (Some t) (cond (eqb f g) (Some s) rest) ≡ cond (eqb f g) (Some s) (cond (eqb a g) (Some t) rest)
swapped f a g s t rest apart =
    elim (eqb a g) as (λ b. eqb a g ≡ b → cond b (Some t) (cond (eqb f g) (Some s) rest) ≡ cond (eqb f g) (Some s) (cond b (Some t) rest)) [
      | true ↦ λ is. elim (eqb f g) as (λ b. eqb f g ≡ b → Some t ≡ cond b (Some s) (Some t)) [
        | true ↦ λ is'. absurd (apart (eqb-true a g is ∙ sym (eqb-true f g is')))
        | false ↦ λ _. refl
      ] refl
      | false ↦ λ _. refl
    ] refl

pub find_scope-with_face : (f : ℕ) (s : Scope) (faces : List FaceEntry) (g : ℕ) → find_scope f faces ≡ None → find_scope g (with_face f s faces) ≡ cond (eqb f g) (Some s) (find_scope g faces)
find_scope-with_face f s [] g none = refl
find_scope-with_face f s (entry ∷ faces) g none =
    elim (ltb f entry.0) as (λ b. find_scope g (cond b ((f, s) ∷ entry ∷ faces) (entry ∷ with_face f s faces)) ≡ cond (eqb f g) (Some s) (find_scope g (entry ∷ faces))) [
      | true ↦ refl
      | false ↦
          let h = not_first f entry faces none in
          ap (λ r. cond (eqb entry.0 g) (Some entry.1) r) (find_scope-with_face f s faces g h.1) ∙ swapped f entry.0 g s entry.1 (find_scope g faces) h.0
    ]

pub length-with_face : (f : ℕ) (s : Scope) (faces : List FaceEntry) → length (with_face f s faces) ≡ length faces + 1
length-with_face f s [] = refl
length-with_face f s (entry ∷ faces) =
    elim (ltb f entry.0) as (λ b. length (cond b ((f, s) ∷ entry ∷ faces) (entry ∷ with_face f s faces)) ≡ length (entry ∷ faces) + 1) [
      | true ↦ omega arith
      | false ↦ omega (arith, length-with_face f s faces)
    ]

All-with_face : (n f : ℕ) (s : Scope) (faces : List FaceEntry) → n < f → AllByRecursion (λ m. n < m) (numbers faces) → AllByRecursion (λ m. n < m) (numbers (with_face f s faces))
All-with_face n f s [] lt all = (lt, tt)
All-with_face n f s (entry ∷ faces) lt all =
    elim (ltb f entry.0) as (λ b. AllByRecursion (λ m. n < m) (numbers (cond b ((f, s) ∷ entry ∷ faces) (entry ∷ with_face f s faces)))) [
      | true ↦ (lt, all)
      | false ↦ (all.0, All-with_face n f s faces lt all.1)
    ]

All_above : (a b : ℕ) (ns : List ℕ) → a < b → AllByRecursion (λ m. b < m) ns → AllByRecursion (λ m. a < m) ns
All_above a b [] lt all = tt
All_above a b (n ∷ ns) lt all = let first : b < n = all.0 in (omega arith, All_above a b ns lt all.1)

pub IsRising-with_face : (f : ℕ) (s : Scope) (faces : List FaceEntry) → find_scope f faces ≡ None → IsRising (numbers faces) → IsRising (numbers (with_face f s faces))
IsRising-with_face f s [] none rising = (tt, tt)
IsRising-with_face f s (entry ∷ faces) none rising =
    let h = not_first f entry faces none in
    elim (ltb f entry.0) as (λ b. ltb f entry.0 ≡ b → IsRising (numbers (cond b ((f, s) ∷ entry ∷ faces) (entry ∷ with_face f s faces)))) [
      | true ↦ λ e. let lt : f < entry.0 = ltb-true _ _ e in ((lt, All_above f entry.0 (numbers faces) lt rising.0), rising)
      | false ↦ λ e. let le : entry.0 ≤ f = ltb-false _ _ e in let apart = h.0 in
          (All-with_face entry.0 f s faces (omega (arith, apart)) rising.0, IsRising-with_face f s faces h.1 rising.1)
    ] refl

pub find_scope-without_entry : (f : ℕ) (faces : List FaceEntry) (g : ℕ) → find_scope g (without_entry f faces) ≡ cond (eqb f g) None (find_scope g faces)
find_scope-without_entry f [] g = elim (eqb f g) as (λ b. find_scope g [] ≡ cond b None (find_scope g [])) [ true ↦ refl | false ↦ refl ]
find_scope-without_entry f (entry ∷ faces) g =
    elim (eqb entry.0 f) as (λ b. eqb entry.0 f ≡ b → find_scope g (cond (not b) (entry ∷ without_entry f faces) (without_entry f faces)) ≡ cond (eqb f g) None (cond (eqb entry.0 g) (Some entry.1) (find_scope g faces))) [
      | true ↦ λ e. find_scope-without_entry f faces g ∙ elim (eqb f g) as (λ c. eqb f g ≡ c → cond c None (find_scope g faces) ≡ cond c None (cond (eqb entry.0 g) (Some entry.1) (find_scope g faces))) [
        | true ↦ λ _. refl
        | false ↦ λ u. rw (eqb-true entry.0 f e, u) refl
      ] refl
      | false ↦ λ e. ap (λ r. cond (eqb entry.0 g) (Some entry.1) r) (find_scope-without_entry f faces g)
          ∙ elim (eqb f g) as (λ c. eqb f g ≡ c → cond (eqb entry.0 g) (Some entry.1) (cond c None (find_scope g faces)) ≡ cond c None (cond (eqb entry.0 g) (Some entry.1) (find_scope g faces))) [
            | true ↦ λ u. rw (← eqb-true f g u, e) refl
            | false ↦ λ _. refl
          ] refl
    ] refl

All-without_entry : (P : ℕ → Type 0) (f : ℕ) (faces : List FaceEntry) → AllByRecursion P (numbers faces) → AllByRecursion P (numbers (without_entry f faces))
All-without_entry P f [] all = tt
All-without_entry P f (entry ∷ faces) all =
    elim (not (eqb entry.0 f)) as (λ b. AllByRecursion P (numbers (cond b (entry ∷ without_entry f faces) (without_entry f faces)))) [
      | true ↦ (all.0, All-without_entry P f faces all.1)
      | false ↦ All-without_entry P f faces all.1
    ]

pub IsRising-without_entry : (f : ℕ) (faces : List FaceEntry) → IsRising (numbers faces) → IsRising (numbers (without_entry f faces))
IsRising-without_entry f [] rising = tt
IsRising-without_entry f (entry ∷ faces) rising =
    elim (not (eqb entry.0 f)) as (λ b. IsRising (numbers (cond b (entry ∷ without_entry f faces) (without_entry f faces)))) [
      | true ↦ (All-without_entry (λ m. entry.0 < m) f faces rising.0, IsRising-without_entry f faces rising.1)
      | false ↦ IsRising-without_entry f faces rising.1
    ]

length_all_kept : (f : ℕ) (faces : List FaceEntry) → AllByRecursion (λ m. f < m) (numbers faces) → length (without_entry f faces) ≡ length faces
length_all_kept f [] all = refl
length_all_kept f (entry ∷ faces) all =
    let first : f < entry.0 = all.0 in
    rw (ne_eqb entry.0 f (λ e. omega (arith, e))) (ap suc (length_all_kept f faces all.1))

pub length-without_entry : (f : ℕ) (s : Scope) (faces : List FaceEntry) → find_scope f faces ≡ Some s → IsRising (numbers faces) → length (without_entry f faces) + 1 ≡ length faces
length-without_entry f s [] found rising = absurd (none_is_not_some s found)
length-without_entry f s (entry ∷ faces) found rising =
    elim (eqb entry.0 f) as (λ b. eqb entry.0 f ≡ b → cond b (Some entry.1) (find_scope f faces) ≡ Some s → length (cond (not b) (entry ∷ without_entry f faces) (without_entry f faces)) + 1 ≡ length (entry ∷ faces)) [
      | true ↦ λ e _. let same : entry.0 ≡ f = eqb-true _ _ e in
          let kept = length_all_kept f faces (subst (λ n. AllByRecursion (λ m. n < m) (numbers faces)) same rising.0) in omega (arith, kept)
      | false ↦ λ e found. omega (arith, length-without_entry f s faces found rising.1)
    ] refl found

pub is_open_some : (f : ℕ) (faces : List FaceEntry) (s : Scope) → find_scope f faces ≡ Some s → is_open f faces ≡ true
is_open_some f [] s e = absurd (none_is_not_some s e)
is_open_some f (entry ∷ faces) s e =
    elim (eqb entry.0 f) as (λ b. cond b (Some entry.1) (find_scope f faces) ≡ Some s → (b || is_open f faces) ≡ true) [
      | true ↦ λ _. refl
      | false ↦ λ e. is_open_some f faces s e
    ] e

pub is_open_none : (f : ℕ) (faces : List FaceEntry) → find_scope f faces ≡ None → is_open f faces ≡ false
is_open_none f [] e = refl
is_open_none f (entry ∷ faces) e =
    let h = not_first f entry faces e in
    rw (ne_eqb entry.0 f h.0) (is_open_none f faces h.1)

pub found_from_in : (f : ℕ) (faces : List FaceEntry) → IsIn f (numbers faces) → (s : Scope) × (find_scope f faces ≡ Some s)
found_from_in f [] h = absurd h
found_from_in f (entry ∷ faces) h =
    elim (eqb entry.0 f) as (λ b. eqb entry.0 f ≡ b → (s : Scope) × (cond b (Some entry.1) (find_scope f faces) ≡ Some s)) [
      | true ↦ λ _. (entry.1, refl)
      | false ↦ λ e. elim h [
        | inl is ↦ absurd (eqb-false entry.0 f e is)
        | inr among ↦ found_from_in f faces among
      ]
    ] refl

pub in_from_found : (f : ℕ) (faces : List FaceEntry) (s : Scope) → find_scope f faces ≡ Some s → IsIn f (numbers faces)
in_from_found f [] s e = absurd (none_is_not_some s e)
in_from_found f (entry ∷ faces) s e =
    elim (eqb entry.0 f) as (λ b. eqb entry.0 f ≡ b → cond b (Some entry.1) (find_scope f faces) ≡ Some s → IsIn f (numbers (entry ∷ faces))) [
      | true ↦ λ t _. inl (eqb-true entry.0 f t)
      | false ↦ λ _ e. inr (in_from_found f faces s e)
    ] refl e

pub not_open_none : (f : ℕ) (faces : List FaceEntry) → is_open f faces ≡ false → find_scope f faces ≡ None
not_open_none f faces closed =
    elim (find_scope f faces) as (λ o. find_scope f faces ≡ o → find_scope f faces ≡ None) [
      | None ↦ λ e. e
      | Some s ↦ λ e. absurd (false_is_not_true (sym closed ∙ is_open_some f faces s e))
    ] refl

-- adding a face that was not open keeps the faces in rising order
pub rising_with : (f : ℕ) (s : Scope) (old new : List FaceEntry) → is_open f old ≡ false → new ≡ with_face f s old → IsRising (numbers old) → IsRising (numbers new)
rising_with f s old new closed is rising = rw is (IsRising-with_face f s old (not_open_none f old closed) rising)

pub rising_without : (f : ℕ) (old new : List FaceEntry) → new ≡ without_entry f old → IsRising (numbers old) → IsRising (numbers new)
rising_without f old new is rising = rw is (IsRising-without_entry f old rising)

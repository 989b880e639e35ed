-- The keys that a Data answers, and the faces with an in-record under such a key.
use Rattle.std.proofs.Common.{◌≡◌, ◌⊎◌, inl, inr, ℕ, Bool, true, false, cond, List, [], ◌∷◌, ◌++◌, refl, sym, ap, subst, ◌∙◌, eqb, append_assoc}
use Rattle.std.specs.Prelude.{Option, None, Some, IsTrue, is_some, ◌&&◌, ◌||◌}
use Rattle.std.specs.Option.{option_and_then}
use Rattle.std.specs.List.{list_any}
use Rattle.std.specs.Ordering.{nat_cmp, eq_by_cmp, is_eq}
use Rattle.std.specs.FinMap.{FinMap, get, get-entries, find, contains_key, entries}
use Rattle.std.proofs.lemmas.Bool.Decides.{nat_tests}
use Rattle.std.proofs.Common.{arith}
use Rattle.std.proofs.lemmas.Bool.{eqb-true}
use Rattle.std.specs.Cmp.{tied_itself}
use Rattle.ndn_tlv.specs.Element.{Field}
use Rattle.ndn_names.specs.Key.{component_cmp-total, component_cmp-antisymmetric}
use Rattle.ndn_names.specs.Order.{component_cmp, name_cmp}
use Rattle.ndn_packets.specs.Answers.{answers, begins_with, full_name}
use Rattle.name_trie.specs.Taken.{changed_along, taken, taken_along}
use Rattle.name_trie.proofs.Revised.{equal}
use Rattle.pit_fib.specs.declared.flags.Flags.{Flags}
use Rattle.pit_fib.specs.FaceSet.{AtMost64, IsRising, adding, has_face}
use Rattle.pit_fib.specs.Flags.{flags}
use Rattle.pit_fib.specs.Kept.{Kept, Row, changed_row, is_answered, kept_in, unanswered, with_answered, with_faces_of, with_asking}
use Rattle.pit_fib.specs.Records.{InRecord}
use Rattle.pit_fib.proofs.Askers.{face_added, or_more}
use Rattle.pit_fib.proofs.KeptTables.{both_equal, row_changes}

-- ---- the keys that a walk along the Data's name finds

-- whether the name of the key equals the Data's name or, if the key has CanBePrefix, whether the
-- name of the key is a prefix of the Data's name
abbrev pub along : List Field → List Field → Bool → Bool
along [] [] can_be_prefix = true
along [] (c ∷ name) can_be_prefix = can_be_prefix
along (d ∷ q) [] can_be_prefix = false
along (d ∷ q) (c ∷ name) can_be_prefix = eq_by_cmp component_cmp d c && along q name can_be_prefix

pub gone_if : (is_own : Bool) (f : Flags) (o : Option Kept) → option_and_then (unanswered is_own f) o ≡ cond (is_answered is_own f) None o
gone_if is_own f None = elim (is_answered is_own f) as (λ b. ◌≡◌ {A = Option Kept} None (cond b None None)) [ true ↦ refl | false ↦ refl ]
gone_if is_own f (Some s) = refl

pub and_some : (o : Option Row) → option_and_then Some o ≡ o
and_some None = refl
and_some (Some r) = refl

pub left_along : (q name : List Field) (row : Option Row) (f : Flags)
    → kept_in (option_and_then (changed_along (changed_row (unanswered true)) (changed_row (unanswered false)) q name) row) f ≡ cond (along q name f.can_be_prefix) None (kept_in row f)
left_along [] [] row f = row_changes (unanswered true) row f ∙ gone_if true f (kept_in row f)
left_along [] (c ∷ name) row f = row_changes (unanswered false) row f ∙ gone_if false f (kept_in row f)
left_along (d ∷ q) [] row f = ap (λ o. kept_in o f) (and_some row)
left_along (d ∷ q) (c ∷ name) row f =
    elim (eq_by_cmp component_cmp d c) as (λ b. kept_in (option_and_then (cond b (changed_along (changed_row (unanswered true)) (changed_row (unanswered false)) q name) Some) row) f
    ≡ cond (b && along q name f.can_be_prefix) None (kept_in row f)) [
      | true ↦ left_along q name row f
      | false ↦ ap (λ o. kept_in o f) (and_some row)
    ]

same_name : (d c : Field) (q name : List Field) → eq_by_cmp name_cmp (d ∷ q) (c ∷ name) ≡ (eq_by_cmp component_cmp d c && eq_by_cmp name_cmp q name)
same_name d c q name = both_equal (component_cmp d c) (name_cmp q name)

factor : (e a b c p : Bool) → ((e && a) || ((e && b) || (p && (e && c)))) ≡ (e && (a || (b || (p && c))))
factor true a b c p = refl
factor false a b c true = refl
factor false a b c false = refl

apart : (e a b : Bool) → (e && (a || b)) ≡ ((e && a) || (e && b))
apart true a b = refl
apart false a b = refl

last : (e p : Bool) → ((e && true) || (p && (e && true))) ≡ (e && true)
last true p = refl
last false true = refl
last false false = refl

never_last : (e p : Bool) → ((e && false) || (p && (e && false))) ≡ (e && false)
never_last true true = refl
never_last true false = refl
never_last false true = refl
never_last false false = refl

-- a Data answers exactly the keys that `along` accepts for the Data's name, and the keys whose name
-- is the Data's full name
pub answers_along : (q name : List Field) (digest : List ℕ) (p : Bool) → answers name digest q p ≡ (along q name p || eq_by_cmp name_cmp q (full_name name digest))
unfolding answers
answers_along [] [] digest p = refl
answers_along [] (c ∷ name) digest true = refl
answers_along [] (c ∷ name) digest false = refl
answers_along (d ∷ []) [] digest p =
    (λ i. same_name d (1, digest) [] [] i || (p && (eq_by_cmp component_cmp d (1, digest) && true))) ∙ last (eq_by_cmp component_cmp d (1, digest)) p ∙ sym (same_name d (1, digest) [] [])
answers_along (d ∷ e ∷ q) [] digest p =
    (λ i. same_name d (1, digest) (e ∷ q) [] i || (p && (eq_by_cmp component_cmp d (1, digest) && false))) ∙ never_last (eq_by_cmp component_cmp d (1, digest)) p ∙ sym (same_name d (1, digest) (e ∷ q) [])
answers_along (d ∷ q) (c ∷ name) digest p =
    let same = eq_by_cmp component_cmp d c in
    (λ i. same_name d c q name i || (same_name d c q (full_name name digest) i || (p && (same && begins_with q (full_name name digest)))))
    ∙ factor same (eq_by_cmp name_cmp q name) (eq_by_cmp name_cmp q (full_name name digest)) (begins_with q (full_name name digest)) p
    ∙ ap (λ b. same && b) (answers_along q name digest p)
    ∙ apart same (along q name p) (eq_by_cmp name_cmp q (full_name name digest))
    ∙ ap (λ b. (same && along q name p) || b) (sym (same_name d c q (full_name name digest)))

-- a walk along `name` does not change the value of the name `name ++ c ∷ []`
pub below_stays : {V : Type 0} (own below : V → Option V) (name : List Field) (c : Field) → changed_along own below (name ++ c ∷ []) name ≡ Some
below_stays own below [] c = refl
below_stays own below (d ∷ name) c =
    elim (eq_by_cmp component_cmp d d) as (λ b. cond b (changed_along own below (name ++ c ∷ []) name) Some ≡ Some) [ true ↦ below_stays own below name c | false ↦ refl ]

-- ---- the faces that have an in-record under a key that a Data answers

pub some-any : {X : Type 0} (f : ℕ) (es : List (ℕ × X)) → is_some (find nat_cmp f es) ≡ list_any (λ e. eqb e.0 f) es
some-any f [] = refl
some-any f (e ∷ es) =
    elim (eq_by_cmp nat_cmp f e.0) as (λ b. eq_by_cmp nat_cmp f e.0 ≡ b → is_some (cond b (Some e.1) (find nat_cmp f es)) ≡ (eqb e.0 f || list_any (λ e. eqb e.0 f) es)) [
      | true ↦ λ t. ap (λ b. b || list_any (λ e. eqb e.0 f) es) (sym t ∙ tie f e.0)
      | false ↦ λ t. some-any f es ∙ ap (λ b. b || list_any (λ e. eqb e.0 f) es) (sym t ∙ tie f e.0)
    ] refl
  where
    tie : (a b : ℕ) → eq_by_cmp nat_cmp a b ≡ eqb b a
    tie a b = grind (arith, nat_tests)

contains-any : {X : Type 0} (m : FinMap nat_cmp X) (f : ℕ) → contains_key m f ≡ list_any (λ e. eqb e.0 f) (entries m)
contains-any m f = ap is_some (get-entries m f) ∙ some-any f (entries m)

-- whether the face has an in-record in this entry
abbrev pub asks_in : Option Kept → ℕ → Bool
asks_in None f = false
asks_in (Some s) f = contains_key s.records.in_records f

-- whether the face has an in-record in this row under a key that the Data answers
abbrev pub asks_row : Bool → Option Row → ℕ → Bool
asks_row is_own row f =
    cond is_own (asks_in (kept_in row (flags false false)) f || asks_in (kept_in row (flags false true)) f) false
    || (asks_in (kept_in row (flags true false)) f || asks_in (kept_in row (flags true true)) f)

-- whether the face has an in-record under a key that the Data answers and that the walk from
-- `front` along the given components finds
abbrev pub asks_along : (List Field → Option Row) → List Field → List Field → ℕ → Bool
asks_along value front [] f = asks_row true (value front) f
asks_along value front (c ∷ rest) f = asks_row false (value front) f || asks_along value (front ++ c ∷ []) rest f

or_false : (a : Bool) → a ≡ (a || false)
or_false true = refl
or_false false = refl

left_true : (a b : Bool) → IsTrue a → IsTrue (a || b)
left_true a b t = ap (λ c. c || b) t

right_true : (a b : Bool) → IsTrue b → IsTrue (a || b)
right_true true b t = refl
right_true false b t = t

-- `new` has, in rising order, exactly the faces in `faces` and the faces for which `more` is true;
-- each face in `new` has the property `P`
pub record Gathers (P : ℕ → Type 0) (faces new : List ℕ) (more : ℕ → Bool) : Type 0 where
  pub rising : IsRising new
  pub within : (f : ℕ) → IsTrue (has_face f new) → P f
  pub each : (f : ℕ) → has_face f new ≡ (has_face f faces || more f)

module _ (P : ℕ → Type 0) (few : AtMost64 P) where
  pub gather_none : (faces : List ℕ) (more : ℕ → Bool) → IsRising faces → ((f : ℕ) → IsTrue (has_face f faces) → P f) → ((f : ℕ) → more f ≡ false) → Gathers P faces faces more
  gather_none faces more rising all none = record { rising = rising; within = all; each = λ f. or_false (has_face f faces) ∙ ap (λ b. has_face f faces || b) (sym (none f)) }

  pub gather_both : {faces middle new : List ℕ} {more then : ℕ → Bool} → Gathers P faces middle more → Gathers P middle new then → Gathers P faces new (λ f. more f || then f)
  gather_both {faces = faces} {more = more} {then = then} a b = record {
    rising = b.rising;
    within = b.within;
    each = λ f. b.each f ∙ ap (λ c. c || then f) (a.each f) ∙ sym (or_more (has_face f faces) (more f) (then f));
  }

  gather_rows : (es : List (ℕ × InRecord)) (faces : List ℕ) → IsRising faces → ((f : ℕ) → IsTrue (has_face f faces) → P f) → ((f : ℕ) → IsTrue (list_any (λ e. eqb e.0 f) es) → P f)
      → Gathers P faces (with_faces_of es faces) (λ f. list_any (λ e. eqb e.0 f) es)
  gather_rows [] faces rising all in_record = gather_none faces (λ f. false) rising all (λ f. refl)
  gather_rows (e ∷ es) faces rising all in_record =
      let new = (adding e.0 faces).1 in
      let here : P e.0 = in_record e.0 (left_true (eqb e.0 e.0) (list_any (λ r. eqb r.0 e.0) es) (same e.0)) in
      let step = face_added P few e.0 here faces new (adding e.0 faces).0 rising all refl in
      let one : Gathers P faces new (λ f. eqb e.0 f) = record {
        rising = step.0;
        within = λ f t. either f (has_face f faces) refl (sym (step.1 f) ∙ t) here;
        each = step.1;
      } in
      gather_both one (gather_rows es new step.0 one.within (λ f t. in_record f (right_true (eqb e.0 f) _ t)))
    where
      same : (n : ℕ) → eqb n n ≡ true
      same n = grind (arith, nat_tests)

      either : (f : ℕ) (b : Bool) → has_face f faces ≡ b → IsTrue (b || eqb e.0 f) → P e.0 → P f
      either f true t h p = all f t
      either f false t h p = subst P (eqb-true e.0 f h) p

  pub gather_asking : (o : Option Kept) (faces : List ℕ) → IsRising faces → ((f : ℕ) → IsTrue (has_face f faces) → P f) → ((f : ℕ) → IsTrue (asks_in o f) → P f)
      → Gathers P faces (with_asking o faces) (asks_in o)
  gather_asking None faces rising all in_record = gather_none faces (λ f. false) rising all (λ f. refl)
  gather_asking (Some s) faces rising all in_record =
      let rows = gather_rows (entries s.records.in_records) faces rising all (λ f t. in_record f (contains-any s.records.in_records f ∙ t)) in
      record { rising = rows.rising; within = rows.within; each = λ f. rows.each f ∙ ap (λ b. has_face f faces || b) (sym (contains-any s.records.in_records f)) }

  gather_row : (is_own : Bool) (row : Row) (faces : List ℕ) → IsRising faces → ((f : ℕ) → IsTrue (has_face f faces) → P f) → ((f : ℕ) → IsTrue (asks_row is_own (Some row) f) → P f)
      → Gathers P faces (with_answered is_own faces row) (asks_row is_own (Some row))
  gather_row true row faces rising all in_record =
      let at : Flags → Option Kept = λ g. get row g in
      let a = gather_asking (at (flags false false)) faces rising all (λ f t. in_record f (left_true _ _ (left_true _ _ t))) in
      let b = gather_asking (at (flags false true)) _ a.rising a.within (λ f t. in_record f (left_true _ _ (right_true (asks_in (at (flags false false)) f) _ t))) in
      let c = gather_asking (at (flags true false)) _ b.rising b.within (λ f t. in_record f (right_true (asks_in (at (flags false false)) f || asks_in (at (flags false true)) f) _ (left_true _ _ t))) in
      let d = gather_asking (at (flags true true)) _ c.rising c.within (λ f t. in_record f (right_true (asks_in (at (flags false false)) f || asks_in (at (flags false true)) f) _ (right_true (asks_in (at (flags true false)) f) _ t))) in
      gather_both (gather_both a b) (gather_both c d)
  gather_row false row faces rising all in_record =
      let at : Flags → Option Kept = λ g. get row g in
      let c = gather_asking (at (flags true false)) faces rising all (λ f t. in_record f (left_true _ _ t)) in
      let d = gather_asking (at (flags true true)) _ c.rising c.within (λ f t. in_record f (right_true (asks_in (at (flags true false)) f) _ t)) in
      gather_both c d

  no_row : (is_own : Bool) (f : ℕ) → asks_row is_own None f ≡ false
  no_row true f = refl
  no_row false f = refl

  pub gather_taken : (is_own : Bool) (row : Option Row) (faces : List ℕ) → IsRising faces → ((f : ℕ) → IsTrue (has_face f faces) → P f) → ((f : ℕ) → IsTrue (asks_row is_own row f) → P f)
      → Gathers P faces (taken (with_answered is_own) faces row) (asks_row is_own row)
  gather_taken is_own None faces rising all in_record = gather_none faces (asks_row is_own None) rising all (no_row is_own)
  gather_taken is_own (Some row) faces rising all in_record = gather_row is_own row faces rising all in_record

  pub gather_along : (value : List Field → Option Row) (front rest : List Field) (faces : List ℕ) → IsRising faces → ((f : ℕ) → IsTrue (has_face f faces) → P f)
      → ((f : ℕ) → IsTrue (asks_along value front rest f) → P f)
      → Gathers P faces (taken_along (with_answered true) (with_answered false) faces value front rest) (asks_along value front rest)
  gather_along value front [] faces rising all in_record = gather_taken true (value front) faces rising all in_record
  gather_along value front (c ∷ rest) faces rising all in_record =
      let a = gather_taken false (value front) faces rising all (λ f t. in_record f (left_true _ _ t)) in
      gather_both a (gather_along value (front ++ c ∷ []) rest _ a.rising a.within (λ f t. in_record f (right_true (asks_row false (value front) f) _ t)))

-- ---- the faces with an in-record along a name

-- the face has an in-record under a key whose name is `front` followed by some components `t`,
-- where `t` and the key's CanBePrefix pass the test
abbrev pub AsksAt : (List Field → Option Row) → List Field → (List Field → Bool → Bool) → ℕ → Type 0
AsksAt value front test f = (t : List Field) × (g : Flags) × IsTrue (test t g.can_be_prefix) × IsTrue (asks_in (kept_in (value (front ++ t)) g) f)

pub or_cases : (a b : Bool) → IsTrue (a || b) → IsTrue a ⊎ IsTrue b
or_cases true b t = inl refl
or_cases false b t = inr t

pub not_true : {A : Type 0} → IsTrue false → A
not_true t = absurd cc

pub append_none : {A : Type 0} (l : List A) → l ++ [] ≡ l
append_none [] = refl
append_none (x ∷ l) = ap (λ k. x ∷ k) (append_none l)

asked_row : (value : List Field → Option Row) (front : List Field) (is_own : Bool) (test : List Field → Bool → Bool) (f : ℕ) → ((p : Bool) → IsTrue (is_own || p) → IsTrue (test [] p))
    → IsTrue (asks_row is_own (value front) f) → AsksAt value front test f
asked_row value front is_own test f passes t =
    elim (or_cases (cond is_own (asks_in (kept_in (value front) (flags false false)) f || asks_in (kept_in (value front) (flags false true)) f) false) _ t) [
      | (inl first) ↦ firsts is_own refl first
      | (inr second) ↦ elim (or_cases (asks_in (kept_in (value front) (flags true false)) f) _ second) [
        | (inl h) ↦ ([], flags true false, passes true (always is_own), subst (λ n. IsTrue (asks_in (kept_in (value n) (flags true false)) f)) (sym (append_none front)) h)
        | (inr h) ↦ ([], flags true true, passes true (always is_own), subst (λ n. IsTrue (asks_in (kept_in (value n) (flags true true)) f)) (sym (append_none front)) h)
      ]
    ]
  where
    always : (b : Bool) → IsTrue (b || true)
    always true = refl
    always false = refl

    firsts : (b : Bool) → is_own ≡ b → IsTrue (cond b (asks_in (kept_in (value front) (flags false false)) f || asks_in (kept_in (value front) (flags false true)) f) false) → AsksAt value front test f
    firsts false e h = not_true h
    firsts true e h = elim (or_cases (asks_in (kept_in (value front) (flags false false)) f) _ h) [
      | (inl k) ↦ ([], flags false false, passes false (ap (λ b. b || false) e), subst (λ n. IsTrue (asks_in (kept_in (value n) (flags false false)) f)) (sym (append_none front)) k)
      | (inr k) ↦ ([], flags false true, passes false (ap (λ b. b || false) e), subst (λ n. IsTrue (asks_in (kept_in (value n) (flags false true)) f)) (sym (append_none front)) k)
    ]

pub asked_along : (value : List Field → Option Row) (front rest : List Field) (f : ℕ) → IsTrue (asks_along value front rest f) → AsksAt value front (λ t p. along t rest p) f
asked_along value front [] f t = asked_row value front true (λ t p. along t [] p) f (λ p _. refl) t
asked_along value front (c ∷ rest) f t =
    elim (or_cases (asks_row false (value front) f) _ t) [
      | (inl h) ↦ asked_row value front false (λ t p. along t (c ∷ rest) p) f (λ p e. e) h
      | (inr h) ↦ let deep = asked_along value (front ++ c ∷ []) rest f h in
          (c ∷ deep.0, deep.1, both_so (self c) deep.2, subst (λ n. IsTrue (asks_in (kept_in (value n) deep.1) f)) (append_assoc front (c ∷ []) deep.0) deep.3)
    ]
  where
    self : (c : Field) → eq_by_cmp component_cmp c c ≡ true
    self c = ap is_eq (tied_itself component_cmp-total c)

    both_so : {a b : Bool} → a ≡ true → b ≡ true → (a && b) ≡ true
    both_so {b = b} p q = ap (λ x. x && b) p ∙ q

pub own : (row : Option Row) (g : Flags) (f : ℕ) → IsTrue (asks_in (kept_in row g) f) → IsTrue (asks_row true row f)
own row g f t = by_flags g.can_be_prefix g.must_be_fresh t
  where
    by_flags : (x y : Bool) → IsTrue (asks_in (kept_in row (flags x y)) f) → IsTrue (asks_row true row f)
    by_flags false false t = left_true _ _ (left_true _ _ t)
    by_flags false true t = left_true _ _ (right_true (asks_in (kept_in row (flags false false)) f) _ t)
    by_flags true false t = right_true (asks_in (kept_in row (flags false false)) f || asks_in (kept_in row (flags false true)) f) _ (left_true _ _ t)
    by_flags true true t = right_true (asks_in (kept_in row (flags false false)) f || asks_in (kept_in row (flags false true)) f) _ (right_true (asks_in (kept_in row (flags true false)) f) _ t)

prefix : (row : Option Row) (g : Flags) (f : ℕ) → IsTrue g.can_be_prefix → IsTrue (asks_in (kept_in row g) f) → IsTrue (asks_row false row f)
prefix row g f p t = by_flags g.can_be_prefix g.must_be_fresh p t
  where
    by_flags : (x y : Bool) → IsTrue x → IsTrue (asks_in (kept_in row (flags x y)) f) → IsTrue (asks_row false row f)
    by_flags false y p t = not_true p
    by_flags true false p t = left_true _ _ t
    by_flags true true p t = right_true (asks_in (kept_in row (flags true false)) f) _ t

pub asks_if : (value : List Field → Option Row) (front t rest : List Field) (g : Flags) (f : ℕ) → IsTrue (along t rest g.can_be_prefix) → IsTrue (asks_in (kept_in (value (front ++ t)) g) f)
    → IsTrue (asks_along value front rest f)
asks_if value front [] [] g f test in_records = own (value front) g f (subst (λ n. IsTrue (asks_in (kept_in (value n) g) f)) (append_none front) in_records)
asks_if value front [] (c ∷ rest) g f test in_records =
    left_true (asks_row false (value front) f) _ (prefix (value front) g f test (subst (λ n. IsTrue (asks_in (kept_in (value n) g) f)) (append_none front) in_records))
asks_if value front (d ∷ t) [] g f test in_records = not_true test
asks_if value front (d ∷ t) (c ∷ rest) g f test in_records =
    let parts = and_parts (eq_by_cmp component_cmp d c) _ test in
    let one : d ≡ c = component_cmp-antisymmetric d c (equal (component_cmp d c) parts.0) in
    right_true (asks_row false (value front) f) _
    (asks_if value (front ++ c ∷ []) t rest g f parts.1
    (subst (λ n. IsTrue (asks_in (kept_in (value n) g) f)) (ap (λ e. front ++ e ∷ t) one ∙ sym (append_assoc front (c ∷ []) t)) in_records))
  where
    and_parts : (a b : Bool) → IsTrue (a && b) → IsTrue a × IsTrue b
    and_parts true b t = (refl, t)
    and_parts false b t = not_true t

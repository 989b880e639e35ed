-- The last in-record, by deadline and then by key, that a face has under the keys that a Data
-- answers, and the token of this in-record.
use Rattle.std.proofs.Common.{◌≡◌, ◌⊎◌, inl, inr, ℕ, zero, suc, ◌<◌, ◌≤◌, Bool, true, false, cond, List, [], ◌∷◌, ◌++◌, length, take, refl, sym, ap, subst, ◌∙◌, arith, append_assoc, ltb}
use Rattle.std.specs.Prelude.{◌≢◌, Option, None, Some, IsTrue, ◌&&◌, ◌||◌}
use Rattle.std.specs.Option.{option_and_then}
use Rattle.std.specs.declared.cmp.Ordering.{Ordering}
use Rattle.std.specs.declared.cmp.Ordering.TheVariants.{Less, Equal, Greater}
use Rattle.std.specs.Ordering.{nat_cmp, eq_by_cmp, is_eq, ordering_reverse}
use Rattle.std.specs.Cmp.{tied_itself}
use Rattle.std.specs.FinMap.{get, get-empty}
use Rattle.std.proofs.lemmas.Bool.Decides.{nat_tests}
use Rattle.ndn_tlv.specs.Element.{Field}
use Rattle.ndn_names.specs.Key.{component_cmp-total, component_cmp-antisymmetric, name_cmp-total, name_cmp-antisymmetric}
use Rattle.ndn_names.specs.Order.{IsProperPrefix, component_cmp, name_cmp}
use Rattle.ndn_names.proofs.OrderLaws.{name_cmp-less}
use Rattle.ndn_names.specs.declared.component_type.TheConstants.{IMPLICIT_SHA256_DIGEST}
use Rattle.ndn_packets.specs.Answers.{answers, full_name}
use Rattle.ndn_packets.specs.Key.{PlainKey, key_cmp, key_cmp-total, key_cmp-antisymmetric}
use Rattle.name_trie.proofs.Revised.{equal}
use Rattle.pit_fib.specs.declared.flags.Flags.{Flags}
use Rattle.pit_fib.specs.Flags.{flags, flags_of, key_at}
use Rattle.pit_fib.specs.Kept.{Kept, Row, Rows, is_answered, kept_at, pending_of}
use Rattle.pit_fib.specs.Last.{ask_in, last_above, last_along, last_exact, last_in_row, last_of, last_prefix, later}
use Rattle.pit_fib.specs.Records.{InRecord, Records, records_at}
use Rattle.pit_fib.specs.Tokens.{IsNotAfter, IsTokenFor}
use Rattle.pit_fib.proofs.Answered.{along, answers_along, not_true, or_cases}
use Rattle.pit_fib.proofs.KeptTables.{makes, records_in, records_kept}

-- ---- at most one token is sent with a Data to a face

reversed : (o p : Ordering) → o ≢ Greater → p ≢ Greater → o ≡ ordering_reverse p → o ≡ Equal
reversed Equal p n m e = refl
reversed Greater p n m e = absurd (n refl)
reversed Less Less n m e = absurd cc
reversed Less Equal n m e = absurd cc
reversed Less Greater n m e = absurd (m refl)

same_key_of : (a b : PlainKey) → key_cmp a b ≢ Greater → key_cmp b a ≢ Greater → a ≡ b
same_key_of a b n m = key_cmp-antisymmetric a b (reversed (key_cmp a b) (key_cmp b a) n m (key_cmp-total.antisymm a b))

neither_after : (a b : PlainKey) (r s : InRecord) → IsNotAfter a r b s → IsNotAfter b s a r → a ≡ b
neither_after a b r s (inl less) (inl more) = absurd (omega arith)
neither_after a b r s (inl less) (inr more) = absurd (let e : s.deadline ≡ r.deadline = more.0 in omega arith)
neither_after a b r s (inr less) (inl more) = absurd (let e : r.deadline ≡ s.deadline = less.0 in omega arith)
neither_after a b r s (inr less) (inr more) = same_key_of a b less.1 more.1

same_some : {A : Type 0} (a b : A) → Some a ≡ Some b → a ≡ b
same_some a b e = cc

pub one_token : (records : PlainKey → Records) (name : List Field) (digest : List ℕ) (face : ℕ) (a b : Option (List ℕ))
    → IsTokenFor records name digest face a → IsTokenFor records name digest face b → a ≡ b
one_token records name digest face a b (inl none) (inl nothing) = none.1 ∙ sym nothing.1
one_token records name digest face a b (inl none) (inr some) = absurd (none.0 some.0 some.1 some.2.asks)
one_token records name digest face a b (inr some) (inl none) = absurd (none.0 some.0 some.1 some.2.asks)
one_token records name digest face a b (inr some) (inr other) =
    let keys : some.0 ≡ other.0 = neither_after some.0 other.0 some.1 other.1 (other.2.last some.0 some.1 some.2.asks) (some.2.last other.0 other.1 other.2.asks) in
    let in_records : some.1 ≡ other.1 = same_some some.1 other.1
    (sym some.2.asks.1 ∙ ap (λ k. get (records k).in_records face) keys ∙ other.2.asks.1) in
    some.3 ∙ ap (λ (r : InRecord). r.token) in_records ∙ sym other.3

-- ---- the last in-record under the keys that were searched

-- `IsLastOf at Seen best`: `best` is the last of the in-records that `at` has under the keys in
-- `Seen`, or None if there are no in-records under these keys
abbrev pub IsLastOf : (PlainKey → Option InRecord) → (PlainKey → Type 0) → Option InRecord → Type 0
IsLastOf at Seen None = (k : PlainKey) (r : InRecord) → Seen k → at k ≡ Some r → ⊥
IsLastOf at Seen (Some best) =
    (key : PlainKey) × Seen key × (at key ≡ Some best)
    × ((k : PlainKey) (r : InRecord) → Seen k → at k ≡ Some r → IsNotAfter k r key best)

not_below : (a b : ℕ) → ltb a b ≡ false → b ≤ a
not_below a b e = grind (arith, nat_tests)

below : (a b : ℕ) → ltb a b ≡ true → a < b
below a b e = grind (arith, nat_tests)

no_some : {A : Type 0} (o : Option A) (x : A) → o ≡ None → o ≡ Some x → ⊥
no_some o x n s = cc

not_greater : (o : Ordering) → o ≡ Less → o ≢ Greater
not_greater o e g = cc

not_itself : (k key : PlainKey) → k ≡ key → key_cmp k key ≢ Greater
not_itself k key e g = let tied : key_cmp k key ≡ Equal = ap (key_cmp k) (sym e) ∙ tied_itself key_cmp-total k in cc

-- Let the in-record `r` not come after the in-record `b`. If the deadline of `b` is at most the
-- deadline of `s`, and the key of `r` is at most the key of `s`, then `r` does not come after `s`.
moved : (k key new : PlainKey) (r b s : InRecord) → b.deadline ≤ s.deadline → key_cmp k new ≢ Greater → IsNotAfter k r key b → IsNotAfter k r new s
moved k key new r b s le order (inl less) = inl (omega arith)
moved k key new r b s le order (inr same) =
    elim (ltb b.deadline s.deadline) as (λ t. ltb b.deadline s.deadline ≡ t → IsNotAfter k r new s) [
      | true ↦ λ t. let less : b.deadline < s.deadline = below b.deadline s.deadline t in
          let one : r.deadline ≡ b.deadline = same.0 in inl (omega arith)
      | false ↦ λ t. let more : s.deadline ≤ b.deadline = not_below b.deadline s.deadline t in
          let one : r.deadline ≡ b.deadline = same.0 in inr ((omega arith), order)
    ] refl

module _ (at : PlainKey → Option InRecord) where
  pub seen_as : (Seen Now : PlainKey → Type 0) (best : Option InRecord) → ((k : PlainKey) → Seen k → Now k) → ((k : PlainKey) → Now k → Seen k) → IsLastOf at Seen best → IsLastOf at Now best
  seen_as Seen Now None to from h = λ k r s. h k r (from k s)
  seen_as Seen Now (Some best) to from h = (h.0, to h.0 h.1, h.2, λ k r s. h.3 k r (from k s))

  none_more : (Seen More : PlainKey → Type 0) (best : Option InRecord) → ((k : PlainKey) → More k → at k ≡ None) → IsLastOf at Seen best → IsLastOf at (λ k. Seen k ⊎ More k) best
  none_more Seen More None none h = λ k r s is. elim s [
    | (inl old) ↦ h k r old is
    | (inr more) ↦ no_some (at k) r (none k more) is
  ]
  none_more Seen More (Some best) none h = (
    h.0,
    inl h.1,
    h.2,
    λ k r s is. elim s as (λ _. IsNotAfter k r h.0 best) [
      | (inl old) ↦ h.3 k r old is
      | (inr more) ↦ absurd (no_some (at k) r (none k more) is)
    ],
  )

  found_at : (k key : PlainKey) (r s : InRecord) → k ≡ key → at k ≡ Some r → at key ≡ Some s → r ≡ s
  found_at k key r s e is new = same_some r s (sym is ∙ ap at e ∙ new)

  pub one_more : (Seen : PlainKey → Type 0) (key : PlainKey) (best o : Option InRecord) → ((k : PlainKey) → Seen k → key_cmp k key ≢ Greater) → at key ≡ o → IsLastOf at Seen best
      → IsLastOf at (λ k. Seen k ⊎ (k ≡ key)) (later best o)
  one_more Seen key None None order new h = none_more Seen (λ k. k ≡ key) None (λ k e. ap at e ∙ new) h
  one_more Seen key None (Some s) order new h = (
    key,
    inr refl,
    new,
    λ k r seen is. elim seen as (λ _. IsNotAfter k r key s) [
      | (inl old) ↦ absurd (h k r old is)
      | (inr e) ↦ inr (ap (λ (x : InRecord). x.deadline) (found_at k key r s e is new), not_itself k key e)
    ],
  )
  one_more Seen key (Some b) None order new h = none_more Seen (λ k. k ≡ key) (Some b) (λ k e. ap at e ∙ new) h
  one_more Seen key (Some b) (Some s) order new h =
      elim (ltb s.deadline b.deadline) as (λ t. ltb s.deadline b.deadline ≡ t → IsLastOf at (λ k. Seen k ⊎ (k ≡ key)) (cond t (Some b) (Some s))) [
        | true ↦ λ t. (
          h.0,
          inl h.1,
          h.2,
          λ k r seen is. elim seen as (λ _. IsNotAfter k r h.0 b) [
            | (inl old) ↦ h.3 k r old is
            | (inr e) ↦ inl (subst (λ (x : InRecord). x.deadline < b.deadline) (sym (found_at k key r s e is new)) (below s.deadline b.deadline t))
          ],
        )
        | false ↦ λ t. (
          key,
          inr refl,
          new,
          λ k r seen is. elim seen as (λ _. IsNotAfter k r key s) [
            | (inl old) ↦ moved k h.0 key r b s (not_below s.deadline b.deadline t) (order k old) (h.3 k r old is)
            | (inr e) ↦ inr (ap (λ (x : InRecord). x.deadline) (found_at k key r s e is new), not_itself k key e)
          ],
        )
      ] refl

-- ---- the keys along a name, and the proper prefixes of the name

prefix_of : (m : ℕ) (l : List Field) → m < length l → IsProperPrefix (take m l) l
prefix_of m [] h = absurd (omega arith)
prefix_of zero (x ∷ l) h = (x, l, refl)
prefix_of (suc m) (x ∷ l) h = let rest = prefix_of m l (omega arith) in (rest.0, rest.1, ap (λ k. x ∷ k) rest.2)

shorter : (m n : ℕ) (l : List Field) → m < n → n < length l → IsProperPrefix (take m l) (take n l)
shorter m n [] less h = absurd (omega arith)
shorter m zero (x ∷ l) less h = absurd (omega arith)
shorter zero (suc n) (x ∷ l) less h = (x, take n l, refl)
shorter (suc m) (suc n) (x ∷ l) less h = let rest = shorter m n l (omega arith) (omega arith) in (rest.0, rest.1, ap (λ k. x ∷ k) rest.2)

self : (c : Field) → eq_by_cmp component_cmp c c ≡ true
self c = ap is_eq (tied_itself component_cmp-total c)

both_so : (a b : Bool) → a ≡ true → b ≡ true → (a && b) ≡ true
both_so a b p q = ap (λ x. x && b) p ∙ q

left_so : (a b : Bool) → IsTrue a → IsTrue (a || b)
left_so a b t = ap (λ c. c || b) t

right_so : (a b : Bool) → IsTrue b → IsTrue (a || b)
right_so true b t = refl
right_so false b t = t

and_parts : (a b : Bool) → IsTrue (a && b) → IsTrue a × IsTrue b
and_parts true b t = (refl, t)
and_parts false b t = not_true t

along_own : (name : List Field) (p : Bool) → IsTrue (along name name p)
along_own [] p = refl
along_own (c ∷ name) p = both_so (eq_by_cmp component_cmp c c) (along name name p) (self c) (along_own name p)

along_above : (m : ℕ) (name : List Field) (p : Bool) → m < length name → IsTrue p → IsTrue (along (take m name) name p)
along_above m [] p h t = absurd (omega arith)
along_above zero (c ∷ name) p h t = t
along_above (suc m) (c ∷ name) p h t =
    both_so (eq_by_cmp component_cmp c c) (along (take m name) name p) (self c) (along_above m name p (omega arith) t)

along_is : (q name : List Field) (p : Bool) → IsTrue (along q name p)
    → (q ≡ name) ⊎ ((m : ℕ) × (m < length name) × (q ≡ take m name) × IsTrue p)
along_is [] [] p t = inl refl
along_is [] (c ∷ name) p t = inr (0, omega arith, refl, t)
along_is (d ∷ q) [] p t = not_true t
along_is (d ∷ q) (c ∷ name) p t =
    let parts = and_parts (eq_by_cmp component_cmp d c) (along q name p) t in
    let one : d ≡ c = component_cmp-antisymmetric d c (equal (component_cmp d c) parts.0) in
    elim (along_is q name p parts.1) as (λ _. (d ∷ q ≡ c ∷ name) ⊎ ((m : ℕ) × (m < length (c ∷ name)) × (d ∷ q ≡ take m (c ∷ name)) × IsTrue p)) [
      | (inl e) ↦ inl (λ i. one i ∷ e i)
      | (inr s) ↦ inr (suc s.0, (let less : s.0 < length name = s.1 in omega arith), (λ i. one i ∷ s.2 i), s.3)
    ]

-- ---- the keys of one name

name_less : (k : PlainKey) (q : List Field) (f : Flags) → IsProperPrefix k.name q → key_cmp k (key_at q f) ≢ Greater
name_less k q f p = not_greater (key_cmp k (key_at q f)) (makes.by_name k.name q (flags_of k) f (name_cmp-less k.name q (inl p)))

one_of : (k : PlainKey) (q : List Field) (x y : Bool) → k.name ≡ q → k.can_be_prefix ≡ x → k.must_be_fresh ≡ y → k ≡ key_at q (flags x y)
one_of k q x y n p m = λ i. record { name = n i; can_be_prefix = p i; must_be_fresh = m i }

module _ (rows : Rows) (face : ℕ) (at : PlainKey → Option InRecord) (shown : (k : PlainKey) → at k ≡ ask_in face (kept_at rows k)) where
  -- If `best` is the last in-record under the keys in `Seen`, `last_prefix` gives the last
  -- in-record under the keys in `Seen` and the two keys of `q` with CanBePrefix. A precondition is
  -- that no key in `Seen` is greater than a key of `q` with CanBePrefix.
  prefix_more : (Seen : PlainKey → Type 0) (q : List Field) (best : Option InRecord) (row : Row) → get rows q ≡ Some row → ((k : PlainKey) (y : Bool) → Seen k → key_cmp k (key_at q (flags true y)) ≢ Greater) → IsLastOf at Seen best
      → IsLastOf at (λ k. (Seen k ⊎ (k ≡ key_at q (flags true false))) ⊎ (k ≡ key_at q (flags true true))) (last_prefix face best row)
  prefix_more Seen q best row here order h =
      let third : PlainKey = key_at q (flags true false) in
      let fourth : PlainKey = key_at q (flags true true) in
      let ask : Flags → Option InRecord = λ f. ask_in face (get row f) in
      let is : (f : Flags) → at (key_at q f) ≡ ask f = λ f. shown (key_at q f) ∙ ap (λ (o : Option Row). ask_in face (option_and_then (λ r. get r f) o)) here in
      one_more at (λ k. Seen k ⊎ (k ≡ third)) fourth (later best (ask (flags true false))) (ask (flags true true))
      (λ k s. elim s as (λ _. key_cmp k fourth ≢ Greater) [
        | (inl old) ↦ order k true old
        | (inr e) ↦ subst (λ (x : PlainKey). key_cmp x fourth ≢ Greater) (sym e) (not_greater (key_cmp third fourth) (makes.by_rest q (flags true false) (flags true true) refl))
      ]) (is (flags true true))
      (one_more at Seen third best (ask (flags true false)) (λ k s. order k false s) (is (flags true false)) h)

  -- If `best` is the last in-record under the keys in `Seen`, `last_exact` gives the last in-record
  -- under the keys in `Seen` and the two keys of `q` without CanBePrefix. A precondition is that no
  -- key in `Seen` is greater than a key of `q` without CanBePrefix.
  exact_more : (Seen : PlainKey → Type 0) (q : List Field) (best : Option InRecord) (row : Row) → get rows q ≡ Some row → ((k : PlainKey) (y : Bool) → Seen k → key_cmp k (key_at q (flags false y)) ≢ Greater) → IsLastOf at Seen best
      → IsLastOf at (λ k. (Seen k ⊎ (k ≡ key_at q (flags false false))) ⊎ (k ≡ key_at q (flags false true))) (last_exact face best row)
  exact_more Seen q best row here order h =
      let first : PlainKey = key_at q (flags false false) in
      let second : PlainKey = key_at q (flags false true) in
      let ask : Flags → Option InRecord = λ f. ask_in face (get row f) in
      let is : (f : Flags) → at (key_at q f) ≡ ask f = λ f. shown (key_at q f) ∙ ap (λ (o : Option Row). ask_in face (option_and_then (λ r. get r f) o)) here in
      one_more at (λ k. Seen k ⊎ (k ≡ first)) second (later best (ask (flags false false))) (ask (flags false true))
      (λ k s. elim s as (λ _. key_cmp k second ≢ Greater) [
        | (inl old) ↦ order k true old
        | (inr e) ↦ subst (λ (x : PlainKey). key_cmp x second ≢ Greater) (sym e) (not_greater (key_cmp first second) (makes.by_rest q (flags false false) (flags false true) refl))
      ]) (is (flags false true))
      (one_more at Seen first best (ask (flags false false)) (λ k s. order k false s) (is (flags false false)) h)

  -- `k` is a key of the name `q`, and `k` passes the test `is_answered`: any key of `q` passes if
  -- `is_own` is true, but only a key with CanBePrefix passes if `is_own` is false
  abbrev pub OfName : Bool → List Field → PlainKey → Type 0
  OfName is_own q k = (k.name ≡ q) × IsTrue (is_answered is_own (flags_of k))

  nothing_more : (is_own : Bool) (Seen : PlainKey → Type 0) (q : List Field) (best : Option InRecord) → get rows q ≡ None → IsLastOf at Seen best → IsLastOf at (λ k. Seen k ⊎ OfName is_own q k) best
  nothing_more is_own Seen q best none h =
      none_more at Seen (OfName is_own q) best
      (λ k own. shown k ∙ ap (λ n. ask_in face (option_and_then (λ r. get r (flags_of k)) (get rows n))) own.0 ∙ ap (λ (o : Option Row). ask_in face (option_and_then (λ r. get r (flags_of k)) o)) none) h

  -- If `best` is the last in-record under the keys in `Seen`, `last_prefix` gives the last
  -- in-record under the keys in `Seen` and the keys of `q` with CanBePrefix. The names of the keys
  -- in `Seen` must be proper prefixes of `q`.
  prefix_row : (Seen : PlainKey → Type 0) (q : List Field) (best : Option InRecord) (row : Row) → get rows q ≡ Some row → ((k : PlainKey) → Seen k → IsProperPrefix k.name q) → IsLastOf at Seen best
      → IsLastOf at (λ k. Seen k ⊎ OfName false q k) (last_prefix face best row)
  prefix_row Seen q best row here order h =
      seen_as at (λ k. (Seen k ⊎ (k ≡ key_at q (flags true false))) ⊎ (k ≡ key_at q (flags true true))) (λ k. Seen k ⊎ OfName false q k) (last_prefix face best row) to from
      (prefix_more Seen q best row here (λ k y s. name_less k q (flags true y) (order k s)) h)
    where
      to : (k : PlainKey) → (Seen k ⊎ (k ≡ key_at q (flags true false))) ⊎ (k ≡ key_at q (flags true true)) → Seen k ⊎ OfName false q k
      to k (inl (inl s)) = inl s
      to k (inl (inr e)) = inr (ap (λ (x : PlainKey). x.name) e, ap (λ (x : PlainKey). x.can_be_prefix) e)
      to k (inr e) = inr (ap (λ (x : PlainKey). x.name) e, ap (λ (x : PlainKey). x.can_be_prefix) e)

      by_flag : (k : PlainKey) (y : Bool) → k.name ≡ q → k.can_be_prefix ≡ true → k.must_be_fresh ≡ y → (Seen k ⊎ (k ≡ key_at q (flags true false))) ⊎ (k ≡ key_at q (flags true true))
      by_flag k false n p m = inl (inr (one_of k q true false n p m))
      by_flag k true n p m = inr (one_of k q true true n p m)

      from : (k : PlainKey) → Seen k ⊎ OfName false q k → (Seen k ⊎ (k ≡ key_at q (flags true false))) ⊎ (k ≡ key_at q (flags true true))
      from k (inl s) = inl (inl s)
      from k (inr own) = by_flag k k.must_be_fresh own.0 own.1 refl

  abbrev Two : (PlainKey → Type 0) → List Field → PlainKey → Type 0
  Two Seen q k = (Seen k ⊎ (k ≡ key_at q (flags false false))) ⊎ (k ≡ key_at q (flags false true))

  abbrev Four : (PlainKey → Type 0) → List Field → PlainKey → Type 0
  Four Seen q k = (Two Seen q k ⊎ (k ≡ key_at q (flags true false))) ⊎ (k ≡ key_at q (flags true true))

  -- If `best` is the last in-record under the keys in `Seen`, `last_exact` followed by
  -- `last_prefix` gives the last in-record under the keys in `Seen` and all keys of `q`. The names
  -- of the keys in `Seen` must be proper prefixes of `q`.
  own_row : (Seen : PlainKey → Type 0) (q : List Field) (best : Option InRecord) (row : Row) → get rows q ≡ Some row → ((k : PlainKey) → Seen k → IsProperPrefix k.name q) → IsLastOf at Seen best
      → IsLastOf at (λ k. Seen k ⊎ OfName true q k) (last_prefix face (last_exact face best row) row)
  own_row Seen q best row here order h =
      seen_as at (Four Seen q) (λ k. Seen k ⊎ OfName true q k) (last_prefix face (last_exact face best row) row) to from
      (prefix_more (Two Seen q) q (last_exact face best row) row here after
      (exact_more Seen q best row here (λ k y s. name_less k q (flags false y) (order k s)) h))
    where
      before : (k : PlainKey) (x y : Bool) → k ≡ key_at q (flags false x) → key_cmp k (key_at q (flags true y)) ≢ Greater
      before k x y e =
          subst (λ (z : PlainKey). key_cmp z (key_at q (flags true y)) ≢ Greater) (sym e)
          (not_greater (key_cmp (key_at q (flags false x)) (key_at q (flags true y))) (makes.by_rest q (flags false x) (flags true y) refl))

      after : (k : PlainKey) (y : Bool) → Two Seen q k → key_cmp k (key_at q (flags true y)) ≢ Greater
      after k y (inl (inl s)) = name_less k q (flags true y) (order k s)
      after k y (inl (inr e)) = before k false y e
      after k y (inr e) = before k true y e

      to : (k : PlainKey) → Four Seen q k → Seen k ⊎ OfName true q k
      to k (inl (inl (inl (inl s)))) = inl s
      to k (inl (inl (inl (inr e)))) = inr (ap (λ (x : PlainKey). x.name) e, refl)
      to k (inl (inl (inr e))) = inr (ap (λ (x : PlainKey). x.name) e, refl)
      to k (inl (inr e)) = inr (ap (λ (x : PlainKey). x.name) e, refl)
      to k (inr e) = inr (ap (λ (x : PlainKey). x.name) e, refl)

      by_flag : (k : PlainKey) (x y : Bool) → k.name ≡ q → k.can_be_prefix ≡ x → k.must_be_fresh ≡ y → Four Seen q k
      by_flag k false false n p m = inl (inl (inl (inr (one_of k q false false n p m))))
      by_flag k false true n p m = inl (inl (inr (one_of k q false true n p m)))
      by_flag k true false n p m = inl (inr (one_of k q true false n p m))
      by_flag k true true n p m = inr (one_of k q true true n p m)

      from : (k : PlainKey) → Seen k ⊎ OfName true q k → Four Seen q k
      from k (inl s) = inl (inl (inl (inl s)))
      from k (inr own) = by_flag k k.can_be_prefix k.must_be_fresh own.0 refl refl

  row_at : (is_own : Bool) (Seen : PlainKey → Type 0) (q : List Field) (best : Option InRecord) (o : Option Row) → get rows q ≡ o → ((k : PlainKey) → Seen k → IsProperPrefix k.name q) → IsLastOf at Seen best
      → IsLastOf at (λ k. Seen k ⊎ OfName is_own q k) (last_in_row is_own face best o)
  row_at is_own Seen q best None none order h = nothing_more is_own Seen q best none h
  row_at true Seen q best (Some row) here order h = own_row Seen q best row here order h
  row_at false Seen q best (Some row) here order h = prefix_row Seen q best row here order h

  -- ---- the last in-record under the keys along a name

  abbrev pub Above : List Field → ℕ → PlainKey → Type 0
  Above name n k = (m : ℕ) × (m < n) × (k.name ≡ take m name) × IsTrue k.can_be_prefix

  above_last : (name : List Field) (n : ℕ) → n ≤ length name → IsLastOf at (Above name n) (last_above rows face name n)
  above_last name zero le = λ k r s is. none_less s.0 s.1
    where
      none_less : (m : ℕ) → m < 0 → ⊥
      none_less m h = omega arith
  above_last name (suc n) le =
      let less : n < length name = omega arith in
      seen_as at (λ k. Above name n k ⊎ OfName false (take n name) k) (Above name (suc n)) (last_in_row false face (last_above rows face name n) (get rows (take n name))) to from
      (row_at false (Above name n) (take n name) (last_above rows face name n) (get rows (take n name)) refl
      (λ k s. subst (λ q. IsProperPrefix q (take n name)) (sym s.2) (shorter s.0 n name s.1 less))
      (above_last name n (omega arith)))
    where
      to : (k : PlainKey) → Above name n k ⊎ OfName false (take n name) k → Above name (suc n) k
      to k (inl s) = (s.0, (let l : s.0 < n = s.1 in omega arith), s.2, s.3)
      to k (inr own) = (n, omega arith, own.0, own.1)

      from : (k : PlainKey) → Above name (suc n) k → Above name n k ⊎ OfName false (take n name) k
      from k s =
          elim (ltb s.0 n) as (λ t. ltb s.0 n ≡ t → Above name n k ⊎ OfName false (take n name) k) [
            | true ↦ λ t. inl (s.0, below s.0 n t, s.2, s.3)
            | false ↦ λ t. let more : n ≤ s.0 = not_below s.0 n t in let less : s.0 < suc n = s.1 in
                let one : s.0 ≡ n = omega arith in inr (s.2 ∙ ap (λ m. take m name) one, s.3)
          ] refl

  abbrev pub Along : List Field → PlainKey → Type 0
  Along name k = Above name (length name) k ⊎ OfName true name k

  along_last : (name : List Field) → IsLastOf at (Along name) (last_along rows face name)
  along_last name =
      row_at true (Above name (length name)) name (last_above rows face name (length name)) (get rows name) refl
      (λ k s. subst (λ q. IsProperPrefix q name) (sym s.2) (prefix_of s.0 name s.1))
      (above_last name (length name) (omega arith))

  pub answered_last : (name : List Field) (digest : List ℕ) → IsLastOf at (λ k. IsTrue (answers name digest k.name k.can_be_prefix)) (last_of rows face name digest)
  answered_last name digest =
      let full = full_name name digest in
      seen_as at (λ k. Along name k ⊎ OfName true full k) (λ k. IsTrue (answers name digest k.name k.can_be_prefix)) (last_of rows face name digest) to from
      (row_at true (Along name) full (last_along rows face name) (get rows full) refl shorter_name (along_last name))
    where
      shorter_name : (k : PlainKey) → Along name k → IsProperPrefix k.name (full_name name digest)
      shorter_name k (inl s) =
          let less = prefix_of s.0 name s.1 in (
            less.0,
            less.1 ++ (IMPLICIT_SHA256_DIGEST, digest) ∷ [],
            ap (λ l. l ++ (IMPLICIT_SHA256_DIGEST, digest) ∷ []) less.2
                ∙ append_assoc (take s.0 name) (less.0 ∷ less.1) ((IMPLICIT_SHA256_DIGEST, digest) ∷ [])
                ∙ ap (λ q. q ++ (less.0 ∷ (less.1 ++ (IMPLICIT_SHA256_DIGEST, digest) ∷ []))) (sym s.2),
          )
      shorter_name k (inr own) = ((IMPLICIT_SHA256_DIGEST, digest), [], ap (λ q. q ++ (IMPLICIT_SHA256_DIGEST, digest) ∷ []) (sym own.0))

      to : (k : PlainKey) → Along name k ⊎ OfName true (full_name name digest) k → IsTrue (answers name digest k.name k.can_be_prefix)
      to k (inl (inl s)) = answers_along k.name name digest k.can_be_prefix ∙ left_so (along k.name name k.can_be_prefix) (eq_by_cmp name_cmp k.name (full_name name digest)) (ap (λ q. along q name k.can_be_prefix) s.2 ∙ along_above s.0 name k.can_be_prefix s.1 s.3)
      to k (inl (inr own)) = answers_along k.name name digest k.can_be_prefix ∙ left_so (along k.name name k.can_be_prefix) (eq_by_cmp name_cmp k.name (full_name name digest)) (ap (λ q. along q name k.can_be_prefix) own.0 ∙ along_own name k.can_be_prefix)
      to k (inr own) =
          answers_along k.name name digest k.can_be_prefix
          ∙ right_so (along k.name name k.can_be_prefix) (eq_by_cmp name_cmp k.name (full_name name digest)) (ap (λ q. eq_by_cmp name_cmp q (full_name name digest)) own.0 ∙ ap is_eq (tied_itself name_cmp-total (full_name name digest)))

      from : (k : PlainKey) → IsTrue (answers name digest k.name k.can_be_prefix) → Along name k ⊎ OfName true (full_name name digest) k
      from k t =
          elim (or_cases (along k.name name k.can_be_prefix) (eq_by_cmp name_cmp k.name (full_name name digest)) (sym (answers_along k.name name digest k.can_be_prefix) ∙ t)) as (λ _. Along name k ⊎ OfName true (full_name name digest) k) [
            | (inl a) ↦ elim (along_is k.name name k.can_be_prefix a) as (λ _. Along name k ⊎ OfName true (full_name name digest) k) [
              | (inl e) ↦ inl (inr (e, refl))
              | (inr s) ↦ inl (inl s)
            ]
            | (inr e) ↦ inr (name_cmp-antisymmetric k.name (full_name name digest) (equal (name_cmp k.name (full_name name digest)) e), refl)
          ]

-- ---- the token of the last in-record

got_in : (o : Option Kept) (face : ℕ) → get (records_in o).in_records face ≡ ask_in face o
got_in None face = get-empty nat_cmp face
got_in (Some s) face = refl

token_of_last : (records : PlainKey → Records) (name : List Field) (digest : List ℕ) (face : ℕ) (best : Option InRecord)
    → IsLastOf (λ k. get (records k).in_records face) (λ k. IsTrue (answers name digest k.name k.can_be_prefix)) best
    → IsTokenFor records name digest face (option_and_then (λ r. r.token) best)
token_of_last records name digest face None h = inl ((λ k r asks. h k r asks.0 asks.1), refl)
token_of_last records name digest face (Some best) h =
    inr (h.0, best, record { asks = (h.1, h.2); last = λ k r asks. h.3 k r asks.0 asks.1 }, refl)

pub token_is_for : (rows : Rows) (name : List Field) (digest : List ℕ) (face : ℕ)
    → IsTokenFor (records_at (pending_of rows)) name digest face (option_and_then (λ r. r.token) (last_of rows face name digest))
token_is_for rows name digest face =
    token_of_last (records_at (pending_of rows)) name digest face (last_of rows face name digest)
    (answered_last rows face (λ k. get (records_at (pending_of rows) k).in_records face)
    (λ k. ap (λ (r : Records). get r.in_records face) (records_kept rows k) ∙ got_in (kept_at rows k) face) name digest)

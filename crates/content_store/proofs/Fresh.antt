-- A full name that is not cached.
use Rattle.std.proofs.Common.{◌≡◌, ◌≢◌, ◌⊎◌, inl, inr, ℕ, ◌+◌, ◌-◌, ◌<◌, ◌≤◌, cond, not, List, [], ◌∷◌, length, get_or, insert, refl, sym, ap, subst, ◌∙◌, arith}
use Rattle.std.specs.List.{All, AllByRecursion, Contains}
use Rattle.std.specs.Ordering.{ordering_reverse}
use Rattle.std.specs.declared.cmp.Ordering.{Ordering}
use Rattle.std.specs.declared.cmp.Ordering.TheVariants.{Less, Equal, Greater}
use Rattle.std.proofs.lemmas.Cmp.{tied_itself}
use Rattle.std.proofs.lemmas.List.Edits.{length-insert, get_or-insert_below, get_or-insert_at, get_or-insert_above}
use Rattle.std.proofs.lemmas.List.Elements.{All-contains, recursion_from_All}
use Rattle.ndn_tlv.specs.Element.{Field}
use Rattle.ndn_names.specs.Order.{name_cmp}
use Rattle.ndn_names.specs.Key.{name_cmp-total, name_cmp-antisymmetric}
use Rattle.content_store.specs.declared.rows.Row.{Row}
use Rattle.content_store.specs.Store.{CachedData, full_name_of, without}
use Rattle.content_store.specs.Rows.{Placed, name_at, Rising, IsLower}
use Rattle.content_store.specs.Uses.{cached_in, Sound}
use Rattle.content_store.proofs.Uses.{differ, one_row}
use Rattle.content_store.proofs.Least.{each, found_at}

not_same : (a b : List Field) → name_cmp a b ≡ Less → a ≡ b → ⊥
not_same a b less e = (let tie = ap (λ x. name_cmp x b) e ∙ tied_itself name_cmp-total b in let clash : Less ≡ Equal = sym less ∙ tie in cc)

same_or_after : (a b : ℕ) → a ≤ b → (a ≡ b) ⊎ (a < b)
same_or_after a b le = grind arith

module _ (rows : List Placed) (at : ℕ) (name : List Field) (rising : Rising rows) (lower : IsLower name rows at) (other : (d : Placed) → at < length rows → name_at (get_or rows at d) ≢ name) where
  greater_at : (d : Placed) → at < length rows → name_cmp name (name_at (get_or rows at d)) ≡ Less
  greater_at d lt = by (name_cmp name (name_at (get_or rows at d))) refl
    where
      by : (o : Ordering) → name_cmp name (name_at (get_or rows at d)) ≡ o → name_cmp name (name_at (get_or rows at d)) ≡ Less
      by Less is = is
      by Equal is = absurd (other d lt (sym (name_cmp-antisymmetric name (name_at (get_or rows at d)) is)))
      by Greater is = absurd (lower.above at d (omega arith) lt (name_cmp-total.antisymm (name_at (get_or rows at d)) name ∙ ap ordering_reverse is))

  pub greater : (k : ℕ) (d : Placed) → at ≤ k → k < length rows → name_cmp name (name_at (get_or rows k d)) ≡ Less
  greater k d ge lt =
      elim (same_or_after at k ge) [
        | inl e ↦ subst (λ (j : ℕ). name_cmp name (name_at (get_or rows j d)) ≡ Less) e (greater_at d (omega arith))
        | inr after ↦ name_cmp-total.trans name (name_at (get_or rows at d)) (name_at (get_or rows k d)) (greater_at d (omega arith)) (rising at k d after lt)
      ]

  cases : (m : ℕ) → (m < at) ⊎ ((m ≡ at) ⊎ ((n : ℕ) × (m ≡ n + 1) × (at ≤ n)))
  cases m = elim (order_of m at) [
    | inl a ↦ inl a
    | inr (inl e) ↦ inr (inl e)
    | inr (inr g) ↦ inr (inr (m - 1, omega arith, omega arith))
  ]
    where
      order_of : (m n : ℕ) → (m < n) ⊎ ((m ≡ n) ⊎ (n < m))
      order_of m n = grind arith

  pub rising_insert : (p : ℕ) (row : Row) → (full_name_of row.entry) ≡ name → Rising (insert rows at (p, row))
  rising_insert p row named i j d before within =
      let y : Placed = (p, row) in
      let le = lower.within in
      let count = length-insert rows at y le in
      let here : name_at (get_or (insert rows at y) at d) ≡ name = ap name_at (get_or-insert_at rows at y d le) ∙ named in
      let low = λ (m : ℕ) (l : m < at). ap name_at (get_or-insert_below rows at y d m l le) in
      let high = λ (m : ℕ) (l : at ≤ m). ap name_at (get_or-insert_above rows at y d m l le) in
      elim (cases i) [
        | inl a ↦ elim (cases j) [
          | inl b ↦ (λ x. name_cmp (low i a x) (low j b x)) ∙ rising i j d before (omega arith)
          | inr (inl b) ↦ ap (λ m. name_cmp (name_at (get_or (insert rows at y) i d)) (name_at (get_or (insert rows at y) m d))) b ∙ (λ x. name_cmp (low i a x) (here x)) ∙ lower.below i d a
          | inr (inr b) ↦
              let step = b.1 in
              ap (λ m. name_cmp (name_at (get_or (insert rows at y) i d)) (name_at (get_or (insert rows at y) m d))) b.1 ∙ (λ x. name_cmp (low i a x) (high b.0 b.2 x)) ∙ rising i b.0 d (omega (arith, b.2)) (omega arith)
        ]
        | inr (inl a) ↦ elim (cases j) [
          | inl b ↦ absurd (omega arith)
          | inr (inl b) ↦ absurd (omega arith)
          | inr (inr b) ↦
              let step = b.1 in
              (λ x. name_cmp (name_at (get_or (insert rows at y) (a x) d)) (name_at (get_or (insert rows at y) (b.1 x) d))) ∙ (λ x. name_cmp (here x) (high b.0 b.2 x)) ∙ greater b.0 d b.2 (omega arith)
        ]
        | inr (inr a) ↦ elim (cases j) [
          | inl b ↦ (let s = a.1 in let t = a.2 in absurd (omega arith))
          | inr (inl b) ↦ (let s = a.1 in let t = a.2 in absurd (omega arith))
          | inr (inr b) ↦
              let s = a.1 in
              let t = b.1 in
              (λ x. name_cmp (name_at (get_or (insert rows at y) (a.1 x) d)) (name_at (get_or (insert rows at y) (b.1 x) d))) ∙ (λ x. name_cmp (high a.0 a.2 x) (high b.0 b.2 x)) ∙ rising a.0 b.0 d (omega arith) (omega arith)
        ]
      ]

  not_at : (k : ℕ) (row : Row) (q : ℕ) → k < length rows → ((d : Placed) → get_or rows k d ≡ (q, row)) → (full_name_of row.entry) ≢ name
  not_at k row q lt is same =
      let d : Placed = (q, row) in
      elim (before_or k at) [
        | inl b ↦ not_same (full_name_of row.entry) name (ap (λ (x : Placed). name_cmp (name_at x) name) (sym (is d)) ∙ lower.below k d b) same
        | inr a ↦ not_same name (full_name_of row.entry) (ap (λ (x : Placed). name_cmp name (name_at x)) (sym (is d)) ∙ greater k d a lt) (sym same)
      ]
    where
      before_or : (m n : ℕ) → (m < n) ⊎ (n ≤ m)
      before_or m n = grind arith

without_none : (name : List Field) (cs : List CachedData) → AllByRecursion (λ d. full_name_of d ≢ name) cs → without name cs ≡ cs
without_none name [] h = refl
without_none name (c ∷ cs) h =
    ap (λ b. cond (not b) (c ∷ without name cs) (without name cs)) (differ (full_name_of c) name h.0) ∙ ap (λ (t : List CachedData). c ∷ t) (without_none name cs h.1)

-- if no row is at the position where a binary search for `name` ends, or if the full name of the
-- row there is not `name`, then no cached Data has the full name `name`
pub none_named : (rows : List Placed) (at : ℕ) (name : List Field) → Rising rows → IsLower name rows at → ((d : Placed) → at < length rows → name_at (get_or rows at d) ≢ name)
    → (used : List (ℕ × ℕ)) (next : ℕ) → Sound rows used next → All (λ d. full_name_of d ≢ name) (cached_in rows used)
none_named rows at name rising lower other used next sound =
    each (λ d. full_name_of d ≢ name) rows used next sound (λ d. full_name_of d ≢ name) (not_at rows at name rising lower other)

-- a cached Data with the full name of the row at position `at` is the Data of this row
pub is_there : (rows : List Placed) (used : List (ℕ × ℕ)) (next at : ℕ) (r : Placed) → Sound rows used next → at < length rows → get_or rows at r ≡ r
    → (c : CachedData) → Contains (cached_in rows used) c → full_name_of c ≡ name_at r → c ≡ r.1.entry
is_there rows used next at r sound lt is c held =
    let Q : CachedData → Type 0 = λ d. full_name_of d ≡ name_at r → d ≡ r.1.entry in
    All-contains Q (cached_in rows used) c
    (each Q rows used next sound Q (λ k row q within here named.
    ap (λ (x : Row). x.entry) (one_row rows sound.valid.rising q r.0 row r.1 (found_at rows k (q, row) sound.valid within (here (q, row))) (found_at rows at r sound.valid lt is) named))) held

pub none_without : (rows : List Placed) (at : ℕ) (name : List Field) → Rising rows → IsLower name rows at → ((d : Placed) → at < length rows → name_at (get_or rows at d) ≢ name)
    → (used : List (ℕ × ℕ)) (next : ℕ) → Sound rows used next → without name (cached_in rows used) ≡ cached_in rows used
none_without rows at name rising lower other used next sound =
    without_none name _ (recursion_from_All (λ d. full_name_of d ≢ name) (cached_in rows used) (none_named rows at name rising lower other used next sound))

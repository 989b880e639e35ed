-- The rows at slab indexes, and how the steps of a binary search narrow the range.
use Rattle.content_store.specs.Store.{full_name_of}
use Rattle.std.proofs.Common.{◌≡◌, ◌⊎◌, inl, inr, ℕ, zero, suc, ◌+◌, ◌-◌, ◌*◌, ◌/◌, ◌^◌, ◌<◌, ◌≤◌, List, [], ◌∷◌, length, get_or, refl, sym, ap, subst, ◌∙◌, arith}
use borrow.Author.Tests.{ne_eqb}
use Rattle.std.specs.Prelude.{Option, None, Some, IsSome, nat_eq, false}
use Rattle.std.specs.Map.{keys_of}
use Rattle.std.proofs.lemmas.Cmp.{tied_itself}
use Rattle.std.proofs.lemmas.Option.{same_Some}
use Rattle.std.proofs.lemmas.Map.Keys.{IsDistinct-from_apart}
use Rattle.std.proofs.lemmas.Map.Entries.{length-keys_of}
use Rattle.std.specs.List.{AllByRecursion}
use Rattle.std.specs.Prelude.{true}
use Rattle.std.specs.Ordering.{is_lt}
use Rattle.std.specs.declared.cmp.Ordering.{Ordering}
use Rattle.std.specs.declared.cmp.Ordering.TheVariants.{Less, Equal, Greater}
use Rattle.std.proofs.Math.Nat.{pow-succ'}
use Rattle.ndn_tlv.specs.Element.{Field}
use Rattle.ndn_names.specs.Order.{name_cmp}
use Rattle.ndn_names.specs.Key.{name_cmp-total}
use Rattle.content_store.specs.declared.rows.Row.{Row}
use Rattle.content_store.specs.Rows.{Placed, shown, with_slot, name_at, Rising, IsRows, IsValidRows}

pub some_is : {X : Type 0} (o : Option X) → IsSome o → (x : X) × (o ≡ Some x)
some_is None h = absurd (cc)
some_is (Some x) h = (x, refl)

module _ (h : ℕ → Option Row) where
  pub length-shown : (ps : List ℕ) → AllByRecursion (λ p. IsSome (h p)) ps → length (shown h ps) ≡ length ps
  unfolding shown
  length-shown [] a = refl
  length-shown (p ∷ ps) a =
      let r = some_is (h p) a.0 in
      ap (λ o. length (with_slot p o (shown h ps))) r.1 ∙ ap (λ n. suc n) (length-shown ps a.1)

  -- at position `k`, the list shows the slab index at this position and the slab's row at this slab
  -- index
  pub shown_at : (ps : List ℕ) (k : ℕ) (row : Row) → AllByRecursion (λ q. IsSome (h q)) ps → k < length ps → h (get_or ps k 0) ≡ Some row
      → (d : Placed) → get_or (shown h ps) k d ≡ (get_or ps k 0, row)
  unfolding shown
  shown_at [] k row a lt at d = absurd (omega arith)
  shown_at (q ∷ ps) zero row a lt at d = ap (λ o. get_or (with_slot q o (shown h ps)) 0 d) at
  shown_at (q ∷ ps) (suc k) row a lt at d =
      let r = some_is (h q) a.0 in
      ap (λ o. get_or (with_slot q o (shown h ps)) (suc k) d) r.1 ∙ shown_at ps k row a.1 (omega arith) at d

pub less_is : (o : Ordering) → is_lt o ≡ true → o ≡ Less
less_is Less e = refl
less_is Equal e = absurd cc
less_is Greater e = absurd cc

pub lt_is : (o : Ordering) → o ≡ Less → is_lt o ≡ true
lt_is o e = ap is_lt e

-- The state of a binary search: the rows before position `low` come before the name, and no row
-- from position `high` on comes before the name.
pub record LowerSoFar (name : List Field) (rows : List Placed) (low high : ℕ) : Type 0 where
  pub ordered : low ≤ high
  pub below : (k : ℕ) (d : Placed) → k < low → name_cmp (name_at (get_or rows k d)) name ≡ Less
  pub above : (k : ℕ) (d : Placed) → high ≤ k → k < length rows → name_cmp (name_at (get_or rows k d)) name ≡ Less → ⊥

same_or_less : (a b : ℕ) → a ≤ b → (a ≡ b) ⊎ (a < b)
same_or_less a b le = grind arith

module _ (name : List Field) (rows : List Placed) (rising : Rising rows) (mid : ℕ) (r : Placed) (within : mid < length rows) (at : (d : Placed) → get_or rows mid d ≡ r) where
  -- if a row comes before the name, all rows up to that row come before the name
  pub all_below : name_cmp (name_at r) name ≡ Less → (k : ℕ) (d : Placed) → k < mid + 1 → name_cmp (name_at (get_or rows k d)) name ≡ Less
  all_below less k d lt =
      elim (same_or_less k mid (omega arith)) [
        | inl e ↦ ap (λ n. name_cmp (name_at (get_or rows n d)) name) e ∙ ap (λ x. name_cmp (name_at x) name) (at d) ∙ less
        | inr before ↦ name_cmp-total.trans (name_at (get_or rows k d)) (name_at (get_or rows mid d)) name (rising k mid d before within) (ap (λ x. name_cmp (name_at x) name) (at d) ∙ less)
      ]

  -- if the row at `mid` does not come before the name, no later row comes before the name
  pub none_below : (name_cmp (name_at r) name ≡ Less → ⊥) → (k : ℕ) (d : Placed) → mid ≤ k → k < length rows → name_cmp (name_at (get_or rows k d)) name ≡ Less → ⊥
  none_below never k d ge lt less =
      elim (same_or_less mid k ge) [
        | inl e ↦ never (ap (λ x. name_cmp (name_at x) name) (sym (at d)) ∙ ap (λ n. name_cmp (name_at (get_or rows n d)) name) e ∙ less)
        | inr after ↦ never (ap (λ x. name_cmp (name_at x) name) (sym (at d)) ∙ name_cmp-total.trans (name_at (get_or rows mid d)) (name_at (get_or rows k d)) name (rising mid k d after lt) less)
      ]

  pub low_moves : (low high : ℕ) → LowerSoFar name rows low high → mid < high → name_cmp (name_at r) name ≡ Less → LowerSoFar name rows (mid + 1) high
  low_moves low high so lt less = record { ordered = omega arith; below = all_below less; above = so.above }

  pub high_moves : (low high : ℕ) → LowerSoFar name rows low high → low ≤ mid → (name_cmp (name_at r) name ≡ Less → ⊥) → LowerSoFar name rows low mid
  high_moves low high so le never = record { ordered = le; below = so.below; above = none_below never }

-- if a range is shorter than `2 ^ left` and has at least one position, then `left` is not 0, and
-- each number up to half the length of the range is less than `2 ^ (left - 1)`
pub halved : (left low high next : ℕ) → high - low < 2 ^ left → low < high → next ≤ (high - low) / 2
    → (n : ℕ) × (left ≡ n + 1) × (next < 2 ^ n)
halved zero low high next h lt le = absurd (omega arith)
halved (suc n) low high next h lt le =
    let p : high - low < 2 * 2 ^ n = subst (λ (x : ℕ). high - low < x) (pow-succ' 2 n) h in
    (n, omega arith, omega arith)

pub all_there : (P : ℕ → Type 0) (ps : List ℕ) (k : ℕ) → AllByRecursion P ps → k < length ps → P (get_or ps k 0)
all_there P [] k a lt = absurd (omega arith)
all_there P (p ∷ ps) zero a lt = a.0
all_there P (p ∷ ps) (suc k) a lt = all_there P ps k a.1 (omega arith)

key_at : (rows : List Placed) (k : ℕ) (d : ℕ) (x : Placed) → k < length rows → get_or (keys_of rows) k d ≡ (get_or rows k x).0
key_at [] k d x lt = absurd (omega arith)
key_at (r ∷ rows) zero d x lt = refl
key_at (r ∷ rows) (suc k) d x lt = key_at rows k d x (omega arith)

-- the rows that the list shows are valid: their full names are in ascending order, and each slab
-- index occurs once
pub valid_shown : (h : ℕ → Option Row) (ps : List ℕ) → IsRows h ps → IsValidRows (shown h ps)
valid_shown h ps rows = record {
  rising = rows.rising;
  distinct = IsDistinct-from_apart nat_eq (keys_of (shown h ps)) apart;
}
  where
    len : length (shown h ps) ≡ length ps
    len = length-shown h ps rows.there

    apart : (i j : ℕ) (d : ℕ) → i < j → j < length (keys_of (shown h ps)) → nat_eq (get_or (keys_of (shown h ps)) i d) (get_or (keys_of (shown h ps)) j d) ≡ false
    apart i j d lt within =
        let count : length (keys_of (shown h ps)) ≡ length (shown h ps) = length-keys_of (shown h ps) in
        let a = some_is (h (get_or ps i 0)) (all_there (λ p. IsSome (h p)) ps i rows.there (omega (arith, len, count))) in
        let b = some_is (h (get_or ps j 0)) (all_there (λ p. IsSome (h p)) ps j rows.there (omega (arith, len, count))) in
        let x : Placed = (get_or ps i 0, a.0) in
        let ai = shown_at h ps i a.0 rows.there (omega (arith, len, count)) a.1 x in
        let bj = shown_at h ps j b.0 rows.there (omega (arith, len, count)) b.1 x in
        let less : name_cmp (full_name_of a.0.entry) (full_name_of b.0.entry) ≡ Less = sym (λ k. name_cmp (name_at (ai k)) (name_at (bj k))) ∙ rows.rising i j x lt (omega (arith, count)) in
        let ki : get_or (keys_of (shown h ps)) i d ≡ get_or ps i 0 = key_at (shown h ps) i d x (omega (arith, count)) ∙ ap (λ (r : Placed). r.0) ai in
        let kj : get_or (keys_of (shown h ps)) j d ≡ get_or ps j 0 = key_at (shown h ps) j d x (omega (arith, count)) ∙ ap (λ (r : Placed). r.0) bj in
        (λ k. nat_eq (ki k) (kj k))
        ∙ ne_eqb (get_or ps i 0) (get_or ps j 0)
        (λ e. let one : a.0 ≡ b.0 = same_Some a.0 b.0 (sym a.1 ∙ ap h e ∙ b.1) in
        let tie : name_cmp (full_name_of a.0.entry) (full_name_of b.0.entry) ≡ Equal = ap (λ (r : Row). name_cmp (full_name_of r.entry) (full_name_of b.0.entry)) one ∙ tied_itself name_cmp-total (full_name_of b.0.entry) in
        let clash : Less ≡ Equal = sym less ∙ tie in absurd cc)

pub rows_none : (f : ℕ → Option Row) (ps : List ℕ) → ps ≡ [] → IsRows f ps × (shown f ps ≡ [])
unfolding shown
rows_none f [] e = (record { there = tt; rising = λ i j d a b. absurd (omega arith) }, refl)
rows_none f (p ∷ ps) e = absurd cc

-- The rows at the slab indexes of a list, after a change of the slab or the list.
use Rattle.content_store.specs.Store.{full_name_of}
use Rattle.std.proofs.Common.{◌≡◌, ◌≢◌, ◌⊎◌, inl, inr, ℕ, zero, suc, ◌+◌, ◌<◌, ◌≤◌, Bool, true, false, cond, eqb, eqb-true, eq-eqb, List, [], ◌∷◌, length, get_or, insert, refl, sym, ap, subst, ◌∙◌, arith}
use borrow.Author.Tests.{eqb-false, ne_eqb}
use Rattle.std.specs.Prelude.{Option, None, Some, IsSome, nat_eq}
use Rattle.std.specs.List.{AllByRecursion, IsDistinct, remove}
use Rattle.std.specs.Map.{keys_of, lookup, remove_entry, set_value}
use Rattle.std.specs.declared.cmp.Ordering.TheVariants.{Less}
use Rattle.std.proofs.lemmas.Cmp.{tied_itself}
use Rattle.std.proofs.lemmas.Option.{slice_get_within, get_or_from_slice_get, same_Some}
use Rattle.std.proofs.lemmas.Map.Keys.{IsDistinct-head, IsDistinct-tail}
use Rattle.std.proofs.lemmas.Map.Entries.{place_from_lookup}
use Rattle.ndn_names.specs.Order.{name_cmp}
use Rattle.ndn_names.specs.Key.{name_cmp-total}
use Rattle.content_store.specs.declared.rows.Row.{Row}
use Rattle.content_store.specs.Rows.{Placed, shown, with_slot, name_at, Rising, IsRows, IsLower}
use Rattle.std.proofs.lemmas.List.Edits.{length-remove, get_or-remove_below, get_or-remove_above}
use Rattle.content_store.proofs.Uses.{all_map}
use Rattle.content_store.proofs.Changes.{all_insert, all_both}
use Rattle.content_store.proofs.Shown.{some_is, length-shown, shown_at, all_there, valid_shown}

pub shown_same : (h f : ℕ → Option Row) (ps : List ℕ) → AllByRecursion (λ q. f q ≡ h q) ps → shown f ps ≡ shown h ps
unfolding shown
shown_same h f [] k = refl
shown_same h f (p ∷ ps) k = λ i. with_slot p (k.0 i) (shown_same h f ps k.1 i)

-- if two slabs have the same rows, and a list of slab indexes is valid for one slab (`IsRows`), the
-- list is valid for the other slab, and shows the same rows for both slabs
pub same_rows : (h f : ℕ → Option Row) (ps : List ℕ) → ((q : ℕ) → f q ≡ h q) → IsRows h ps → (shown f ps ≡ shown h ps) × IsRows f ps
same_rows h f ps e rows =
    let same = shown_same h f ps (all_map (λ q. IsSome (h q)) (λ q. f q ≡ h q) (λ q s. e q) ps rows.there) in (
      same,
      record {
        there = all_map (λ q. IsSome (h q)) (λ q. IsSome (f q)) (λ q s. subst IsSome (sym (e q)) s) ps rows.there;
        rising = subst Rising (sym same) rows.rising;
      },
    )

pub shown_insert : (h : ℕ → Option Row) (ps : List ℕ) (at p : ℕ) (row : Row) → AllByRecursion (λ q. IsSome (h q)) ps → h p ≡ Some row → shown h (insert ps at p) ≡ insert (shown h ps) at (p, row)
unfolding shown
shown_insert h ps zero p row a is = ap (λ o. with_slot p o (shown h ps)) is
shown_insert h [] (suc at) p row a is = ap (λ o. with_slot p o []) is
shown_insert h (q ∷ ps) (suc at) p row a is =
    let r = some_is (h q) a.0 in
    ap (λ o. with_slot q o (shown h (insert ps at p))) r.1 ∙ ap (λ l. (q, r.0) ∷ l) (shown_insert h ps at p row a.1 is)
    ∙ sym (ap (λ o. insert (with_slot q o (shown h ps)) (suc at) (p, row)) r.1)

-- if a lookup of a slab index in the shown rows finds a row, the slab has this row at this slab
-- index
pub lookup_shown : (h : ℕ → Option Row) (ps : List ℕ) (p : ℕ) (row : Row) → lookup (nat_eq p) (shown h ps) ≡ Some row → h p ≡ Some row
unfolding shown
lookup_shown h [] p row e = absurd cc
lookup_shown h (q ∷ ps) p row e = split (h q) refl e (lookup_shown h ps p row)
  where
    deeper : (r : Row) (b : Bool) → h q ≡ Some r → eqb p q ≡ b → cond b (Some r) (lookup (nat_eq p) (shown h ps)) ≡ Some row → (lookup (nat_eq p) (shown h ps) ≡ Some row → h p ≡ Some row) → h p ≡ Some row
    deeper r true at t f again = ap h (eqb-true p q t) ∙ at ∙ f
    deeper r false at t f again = again f

    split : (o : Option Row) → h q ≡ o → lookup (nat_eq p) (with_slot q o (shown h ps)) ≡ Some row → (lookup (nat_eq p) (shown h ps) ≡ Some row → h p ≡ Some row) → h p ≡ Some row
    split None at f again = again f
    split (Some r) at f again = deeper r (eqb p q) at refl f again

-- a binary search for the full name of a row ends at that row
pub own_place : (h : ℕ → Option Row) (ps : List ℕ) (p at : ℕ) (row : Row) → IsRows h ps → lookup (nat_eq p) (shown h ps) ≡ Some row → IsLower (full_name_of row.entry) (shown h ps) at
    → (at < length ps) × (get_or ps at 0 ≡ p)
own_place h ps p at row rows found lower =
    let i = place_from_lookup (nat_eq p) (shown h ps) row found in
    let here : (d : Placed) → get_or (shown h ps) i.0 d ≡ (i.1, row) = λ d. get_or_from_slice_get (shown h ps) i.0 (i.1, row) d i.2 in
    let within = slice_get_within (shown h ps) i.0 (i.1, row) i.2 in
    let len = length-shown h ps rows.there in
    let same : p ≡ i.1 = eqb-true p i.1 i.3 in
    let tie = tied_itself name_cmp-total (full_name_of row.entry) in
    let k_is : i.0 ≡ at =
    elim (order_of i.0 at) [
      | inl before ↦
          let less : name_cmp (full_name_of row.entry) (full_name_of row.entry) ≡ Less = sym (ap (λ (x : Placed). name_cmp (name_at x) (full_name_of row.entry)) (here (i.1, row))) ∙ lower.below i.0 (i.1, row) before in
          absurd cc
      | inr (inl e) ↦ e
      | inr (inr after) ↦ absurd (lower.above at (i.1, row) (omega arith) (omega arith)
          (ap (λ (x : Placed). name_cmp (name_at (get_or (shown h ps) at (i.1, row))) (name_at x)) (sym (here (i.1, row))) ∙ rows.rising at i.0 (i.1, row) after within))
    ] in
    let there = lookup_shown h ps p row found in
    let r = some_is (h (get_or ps i.0 0)) (all_there (λ q. IsSome (h q)) ps i.0 rows.there (omega arith)) in
    let stands = shown_at h ps i.0 r.0 rows.there (omega arith) r.1 (i.1, row) in
    let place : get_or ps i.0 0 ≡ i.1 = ap (λ (x : Placed). x.0) (sym stands ∙ here (i.1, row)) in
    (omega arith, ap (λ n. get_or ps n 0) (sym k_is) ∙ place ∙ sym same)
  where
    order_of : (m n : ℕ) → (m < n) ⊎ ((m ≡ n) ⊎ (n < m))
    order_of m n = grind arith

-- if the slab has a row at each slab index of the list, a slab index without a row is not in the
-- list
pub vacant : (h : ℕ → Option Row) (ps : List ℕ) (p : ℕ) → AllByRecursion (λ q. IsSome (h q)) ps → h p ≡ None → AllByRecursion (λ q. q ≢ p) ps
vacant h [] p a none = tt
vacant h (q ∷ ps) p a none = ((λ e. (let r = some_is (h q) a.0 in let n = ap h e ∙ none in let b = sym r.1 ∙ n in cc)), vacant h ps p a.1 none)

pub lookup_vacant : (h : ℕ → Option Row) (ps : List ℕ) (p : ℕ) → AllByRecursion (λ q. q ≢ p) ps → lookup (nat_eq p) (shown h ps) ≡ None
unfolding shown
lookup_vacant h [] p a = refl
lookup_vacant h (q ∷ ps) p a = split (h q) (lookup_vacant h ps p a.1)
  where
    split : (o : Option Row) → lookup (nat_eq p) (shown h ps) ≡ None → lookup (nat_eq p) (with_slot q o (shown h ps)) ≡ None
    split None rest = rest
    split (Some r) rest = ap (λ b. cond b (Some r) (lookup (nat_eq p) (shown h ps))) (ne_eqb p q (λ e. a.0 (sym e))) ∙ rest

-- if one row is added to the slab, and its slab index is inserted at position `at` of the list, the
-- list shows the old rows with the new row inserted at position `at`
pub inserted : (h f : ℕ → Option Row) (ps new : List ℕ) (at p : ℕ) (row : Row) → IsRows h ps → h p ≡ None → f p ≡ Some row → ((q : ℕ) → q ≢ p → f q ≡ h q) → new ≡ insert ps at p
    → Rising (insert (shown h ps) at (p, row)) → (shown f new ≡ insert (shown h ps) at (p, row)) × IsRows f new
inserted h f ps new at p row rows none here others is rising =
    let apart = vacant h ps p rows.there none in
    let same = shown_same h f ps (all_map (λ q. q ≢ p) (λ q. f q ≡ h q) others ps apart) in
    let there : AllByRecursion (λ q. IsSome (f q)) ps =
    all_map (λ q. (q ≢ p) × IsSome (h q)) (λ q. IsSome (f q)) (λ q k. subst IsSome (sym (others q k.0)) k.1) ps (all_both (λ q. q ≢ p) (λ q. IsSome (h q)) ps apart rows.there) in
    let whole : shown f new ≡ insert (shown h ps) at (p, row) = ap (shown f) is ∙ shown_insert f ps at p row there here ∙ ap (λ l. insert l at (p, row)) same in (
      whole,
      record {
        there = subst (λ (l : List ℕ). AllByRecursion (λ q. IsSome (f q)) l) (sym is) (all_insert (λ q. IsSome (f q)) ps at p (subst IsSome (sym here) refl) there);
        rising = subst Rising (sym whole) rising;
      },
    )

all_past : (P : ℕ → Type 0) (ps : List ℕ) (k : ℕ) → AllByRecursion P ps → AllByRecursion P (remove ps k)
all_past P [] zero a = tt
all_past P [] (suc k) a = tt
all_past P (p ∷ ps) zero a = a.1
all_past P (p ∷ ps) (suc k) a = (a.0, all_past P ps k a.1)

places_apart : (h : ℕ → Option Row) (ps : List ℕ) (q : ℕ) → AllByRecursion (λ x. IsSome (h x)) ps → AllByRecursion (λ t. nat_eq q t ≡ false) (keys_of (shown h ps)) → AllByRecursion (λ x. x ≢ q) ps
unfolding shown
places_apart h [] q a k = tt
places_apart h (p ∷ ps) q a k =
    let r = some_is (h p) a.0 in
    let d = subst (λ (o : Option Row). AllByRecursion (λ t. nat_eq q t ≡ false) (keys_of (with_slot p o (shown h ps)))) r.1 k in
    ((λ e. eqb-false q p d.0 (sym e)), places_apart h ps q a.1 d.1)

-- if one slab index is removed from the list, the list shows the other rows, and no longer has this
-- slab index
shown_remove : (h : ℕ → Option Row) (ps : List ℕ) (k p : ℕ) → AllByRecursion (λ q. IsSome (h q)) ps → IsDistinct nat_eq (keys_of (shown h ps)) → k < length ps → get_or ps k 0 ≡ p
    → (shown h (remove ps k) ≡ remove_entry (nat_eq p) (shown h ps)) × AllByRecursion (λ q. q ≢ p) (remove ps k)
unfolding shown
shown_remove h [] k p a distinct lt is = absurd (omega arith)
shown_remove h (q ∷ ps) zero p a distinct lt is =
    let r = some_is (h q) a.0 in
    let apart = IsDistinct-head nat_eq q (keys_of (shown h ps)) (subst (λ (o : Option Row). IsDistinct nat_eq (keys_of (with_slot q o (shown h ps)))) r.1 distinct) in (
      sym (ap (λ o. remove_entry (nat_eq p) (with_slot q o (shown h ps))) r.1 ∙ ap (λ b. cond b (shown h ps) ((q, r.0) ∷ remove_entry (nat_eq p) (shown h ps))) (eq-eqb p q (sym is))),
      subst (λ (n : ℕ). AllByRecursion (λ x. x ≢ n) ps) is (places_apart h ps q a.1 apart),
    )
shown_remove h (q ∷ ps) (suc k) p a distinct lt is =
    let r = some_is (h q) a.0 in
    let d = subst (λ (o : Option Row). IsDistinct nat_eq (keys_of (with_slot q o (shown h ps)))) r.1 distinct in
    let rest = shown_remove h ps k p a.1 (IsDistinct-tail nat_eq q (keys_of (shown h ps)) d) (omega arith) is in
    let apart = places_apart h ps q a.1 (IsDistinct-head nat_eq q (keys_of (shown h ps)) d) in
    let here : q ≢ p = λ e. all_there (λ x. x ≢ q) ps k apart (omega arith) (is ∙ sym e) in (
      ap (λ o. with_slot q o (shown h (remove ps k))) r.1 ∙ ap (λ l. (q, r.0) ∷ l) rest.0
          ∙ sym (ap (λ o. remove_entry (nat_eq p) (with_slot q o (shown h ps))) r.1 ∙ ap (λ b. cond b (shown h ps) ((q, r.0) ∷ remove_entry (nat_eq p) (shown h ps))) (ne_eqb p q (λ e. here (sym e)))),
      (here, rest.1),
    )

-- full names are still in ascending order after one row is removed
pub rising_removed : (rows : List Placed) (k : ℕ) → k < length rows → Rising rows → Rising (remove rows k)
rising_removed rows k lt rising i j d before within =
    let count = length-remove rows k lt in
    elim (below_or i k) [
      | inl i_low ↦ elim (below_or j k) [
        | inl j_low ↦ (λ x. name_cmp (name_at (get_or-remove_below rows k d i i_low lt x)) (name_at (get_or-remove_below rows k d j j_low lt x))) ∙ rising i j d before (omega arith)
        | inr j_high ↦ (λ x. name_cmp (name_at (get_or-remove_below rows k d i i_low lt x)) (name_at (get_or-remove_above rows k d j j_high lt x))) ∙ rising i (j + 1) d (omega arith) (omega arith)
      ]
      | inr i_high ↦ (λ x. name_cmp (name_at (get_or-remove_above rows k d i i_high lt x)) (name_at (get_or-remove_above rows k d j (omega arith) lt x))) ∙ rising (i + 1) (j + 1) d (omega arith) (omega arith)
    ]
  where
    below_or : (m n : ℕ) → (m < n) ⊎ (n ≤ m)
    below_or m n = grind arith

shown_without : (h : ℕ → Option Row) (ps : List ℕ) (k : ℕ) → AllByRecursion (λ q. IsSome (h q)) ps → shown h (remove ps k) ≡ remove (shown h ps) k
unfolding shown
shown_without h [] zero a = refl
shown_without h [] (suc k) a = refl
shown_without h (p ∷ ps) zero a = let r = some_is (h p) a.0 in sym (ap (λ o. remove (with_slot p o (shown h ps)) 0) r.1)
shown_without h (p ∷ ps) (suc k) a =
    let r = some_is (h p) a.0 in
    ap (λ o. with_slot p o (shown h (remove ps k))) r.1 ∙ ap (λ l. (p, r.0) ∷ l) (shown_without h ps k a.1) ∙ sym (ap (λ o. remove (with_slot p o (shown h ps)) (suc k)) r.1)

-- if one row is removed from the slab, and its slab index from the list, the list shows the other
-- rows
pub forgotten : (h f : ℕ → Option Row) (ps new : List ℕ) (k p : ℕ) → IsRows h ps → k < length ps → get_or ps k 0 ≡ p → ((q : ℕ) → q ≢ p → f q ≡ h q) → new ≡ remove ps k
    → (shown f new ≡ remove_entry (nat_eq p) (shown h ps)) × IsRows f new × (shown f new ≡ remove (shown h ps) k)
forgotten h f ps new k p rows lt at others is =
    let valid = valid_shown h ps rows in
    let out = shown_remove h ps k p rows.there valid.distinct lt at in
    let same = shown_same h f (remove ps k) (all_map (λ q. q ≢ p) (λ q. f q ≡ h q) others (remove ps k) out.1) in
    let left : AllByRecursion (λ q. IsSome (h q)) (remove ps k) = all_past (λ q. IsSome (h q)) ps k rows.there in
    let there : AllByRecursion (λ q. IsSome (f q)) (remove ps k) =
    all_map (λ q. (q ≢ p) × IsSome (h q)) (λ q. IsSome (f q)) (λ q c. subst IsSome (sym (others q c.0)) c.1) (remove ps k) (all_both (λ q. q ≢ p) (λ q. IsSome (h q)) (remove ps k) out.1 left) in
    let len = length-shown h ps rows.there in (
      ap (shown f) is ∙ same ∙ out.0,
      record {
        there = subst (λ (l : List ℕ). AllByRecursion (λ q. IsSome (f q)) l) (sym is) there;
        rising = subst Rising (sym (ap (shown f) is ∙ same ∙ shown_without h ps k rows.there)) (rising_removed (shown h ps) k (omega arith) rows.rising);
      },
      ap (shown f) is ∙ same ∙ shown_without h ps k rows.there,
    )

-- if a row in the slab is replaced by another row, the list shows the new row in the place of the
-- old row
shown_valued : (h f : ℕ → Option Row) (ps : List ℕ) (p : ℕ) (new : Row) → AllByRecursion (λ q. IsSome (h q)) ps → IsDistinct nat_eq (keys_of (shown h ps)) → f p ≡ Some new
    → ((q : ℕ) → q ≢ p → f q ≡ h q) → shown f ps ≡ set_value (nat_eq p) (shown h ps) new
unfolding shown
shown_valued h f [] p new a distinct here others = refl
shown_valued h f (q ∷ ps) p new a distinct here others =
    let r = some_is (h q) a.0 in
    let d = subst (λ (o : Option Row). IsDistinct nat_eq (keys_of (with_slot q o (shown h ps)))) r.1 distinct in
    let apart = places_apart h ps q a.1 (IsDistinct-head nat_eq q (keys_of (shown h ps)) d) in
    let rest = shown_valued h f ps p new a.1 (IsDistinct-tail nat_eq q (keys_of (shown h ps)) d) here others in
    let goal : with_slot q (f q) (shown f ps) ≡ cond (eqb p q) ((q, new) ∷ shown h ps) ((q, r.0) ∷ set_value (nat_eq p) (shown h ps) new) =
    elim (eqb p q) as (λ b. eqb p q ≡ b → with_slot q (f q) (shown f ps) ≡ cond b ((q, new) ∷ shown h ps) ((q, r.0) ∷ set_value (nat_eq p) (shown h ps) new)) [
      | true ↦ λ t.
          let same = eqb-true p q t in
          ap (λ o. with_slot q o (shown f ps)) (ap f (sym same) ∙ here)
          ∙ ap (λ l. (q, new) ∷ l) (shown_same h f ps (all_map (λ x. x ≢ q) (λ x. f x ≡ h x) (λ x ne. others x (λ e. ne (e ∙ same))) ps apart))
      | false ↦ λ t. ap (λ o. with_slot q o (shown f ps)) (others q (λ e. eqb-false p q t (sym e)) ∙ r.1) ∙ ap (λ l. (q, r.0) ∷ l) rest
    ] refl in
    goal ∙ sym (ap (λ o. set_value (nat_eq p) (with_slot q o (shown h ps)) new) r.1)

pub valued : (h f : ℕ → Option Row) (ps : List ℕ) (p : ℕ) (row new : Row) → IsRows h ps → h p ≡ Some row → f p ≡ Some new → ((q : ℕ) → q ≢ p → f q ≡ h q) → (full_name_of new.entry) ≡ (full_name_of row.entry)
    → (shown f ps ≡ set_value (nat_eq p) (shown h ps) new) × IsRows f ps
valued h f ps p row new rows at here others named = (
  shown_valued h f ps p new rows.there (valid_shown h ps rows).distinct here others,
  record { there = there; rising = rising },
)
  where
    row_of : (q : ℕ) (a : Row) → h q ≡ Some a → (b : Row) × (f q ≡ Some b) × ((full_name_of b.entry) ≡ (full_name_of a.entry))
    row_of q a is =
        elim (eqb q p) as (λ b. eqb q p ≡ b → (b : Row) × (f q ≡ Some b) × ((full_name_of b.entry) ≡ (full_name_of a.entry))) [
          | true ↦ λ t. (new, ap f (eqb-true q p t) ∙ here, named ∙ ap (λ (r : Row). (full_name_of r.entry)) (same_Some row a (sym at ∙ ap h (sym (eqb-true q p t)) ∙ is)))
          | false ↦ λ t. (a, others q (eqb-false q p t) ∙ is, refl)
        ] refl

    there : AllByRecursion (λ q. IsSome (f q)) ps
    there = all_map (λ q. IsSome (h q)) (λ q. IsSome (f q)) (λ q s. let a = some_is (h q) s in let b = row_of q a.0 a.1 in subst IsSome (sym b.1) refl) ps rows.there

    name_is : (k : ℕ) (d : Placed) → k < length ps → name_at (get_or (shown f ps) k d) ≡ name_at (get_or (shown h ps) k d)
    name_is k d lt =
        let a = some_is (h (get_or ps k 0)) (all_there (λ q. IsSome (h q)) ps k rows.there lt) in
        let b = row_of (get_or ps k 0) a.0 a.1 in
        ap name_at (shown_at f ps k b.0 there lt b.1 d) ∙ b.2 ∙ sym (ap name_at (shown_at h ps k a.0 rows.there lt a.1 d))

    rising : Rising (shown f ps)
    rising i j d before within =
        let lf = length-shown f ps there in
        let lh = length-shown h ps rows.there in
        (λ x. name_cmp (name_is i d (omega arith) x) (name_is j d (omega arith) x)) ∙ rows.rising i j d before (omega arith)

-- The first row that can serve an Interest has the least full name among the rows that can serve
-- it. The state of a store with valid fields (`IsHeld`) is valid (`IsStore`).
use Rattle.std.proofs.Common.{◌≡◌, ◌≢◌, ◌⊎◌, inl, inr, ℕ, suc, ◌<◌, ◌≤◌, Bool, true, false, cond, eqb, List, [], ◌∷◌, length, get_or, refl, sym, ap, subst, ◌∙◌, arith, All, Contains}
use borrow.Author.Tests.{eqb-false}
use Rattle.std.specs.Prelude.{Option, None, Some, nat_eq}
use Rattle.std.specs.Option.{option_map}
use Rattle.std.specs.List.{AllByRecursion, IsDistinct}
use Rattle.std.specs.Map.{keys_of, lookup}
use Rattle.std.specs.Cmp.{nat_eq_equiv}
use Rattle.std.specs.declared.cmp.Ordering.TheVariants.{Less as Lt}
use Rattle.std.proofs.lemmas.Option.{slice_get_within, slice_get-get_or, get_or_from_slice_get}
use Rattle.std.proofs.lemmas.List.Elements.{All-from_recursion}
use Rattle.std.proofs.lemmas.Map.Keys.{IsDistinct-head, IsDistinct-tail}
use Rattle.std.proofs.lemmas.Map.Entries.{place_from_lookup, lookup_from_place}
use Rattle.lru.proofs.Splits.{Contains-head, Contains-tail}
use Rattle.ndn_names.specs.Order.{Less, name_cmp}
use Rattle.ndn_names.proofs.OrderLaws.{less-name_cmp, Less-irreflexive, Less-transitive}
use Rattle.content_store.specs.declared.rows.Row.{Row}
use Rattle.content_store.specs.Store.{CachedData, EachOnce, IsCachedData, IsLeast, IsStore, full_name_of}
use Rattle.lru.specs.LruCache.{LruCache}
use Rattle.content_store.specs.Rows.{Placed, name_at, held_at, Rising, IsValidRows, FirstWith}
use Rattle.content_store.specs.Uses.{with_held, cached_by, held_in, cached_in, LeadsTo, Sound, IsHeld}
use Rattle.content_store.proofs.Uses.{all_map, one_row, held_at_is}

module _ (g : ℕ → Option CachedData) where
  pub contains_cached : (s p : ℕ) (c : CachedData) (us : List (ℕ × ℕ)) → lookup (nat_eq s) us ≡ Some p → g p ≡ Some c → Contains (cached_by g us) c
  unfolding cached_by
  contains_cached s p c [] e at = absurd cc
  contains_cached s p c (u ∷ us) e at = split (eqb s u.0) e (λ f. contains_cached s p c us f at)
    where
      deeper : (o : Option CachedData) → Contains (cached_by g us) c → Contains (with_held o (cached_by g us)) c
      deeper None h = h
      deeper (Some d) h = Contains-tail d (cached_by g us) c h

      split : (b : Bool) → cond b (Some u.1) (lookup (nat_eq s) us) ≡ Some p → (lookup (nat_eq s) us ≡ Some p → Contains (cached_by g us) c) → Contains (with_held (g u.1) (cached_by g us)) c
      split true f again =
          let value : u.1 ≡ p = cc in
          let here : g u.1 ≡ Some c = ap g value ∙ at in
          subst (λ (o : Option CachedData). Contains (with_held o (cached_by g us)) c) (sym here) (Contains-head c (cached_by g us))
      split false f again = deeper (g u.1) (again f)

  pub all_cached : (Q : CachedData → Type 0) (us : List (ℕ × ℕ)) → AllByRecursion (λ u. (d : CachedData) → g u.1 ≡ Some d → Q d) us → AllByRecursion Q (cached_by g us)
  unfolding cached_by
  all_cached Q [] h = tt
  all_cached Q (u ∷ us) h = split (g u.1) (λ d e. h.0 d e) (all_cached Q us h.1)
    where
      split : (o : Option CachedData) → ((d : CachedData) → o ≡ Some d → Q d) → AllByRecursion Q (cached_by g us) → AllByRecursion Q (with_held o (cached_by g us))
      split None f rest = rest
      split (Some d) f rest = (f d refl, rest)

  pub length_cached : (us : List (ℕ × ℕ)) → length (cached_by g us) ≤ length us
  unfolding cached_by
  length_cached [] = omega arith
  length_cached (u ∷ us) = split (g u.1) (length_cached us)
    where
      split : (o : Option CachedData) → length (cached_by g us) ≤ length us → length (with_held o (cached_by g us)) ≤ suc (length us)
      split None h = omega arith
      split (Some d) h = omega arith

-- a row that a lookup finds has a position in the list
pub place_at : (rows : List Placed) (p : ℕ) (row : Row) → lookup (nat_eq p) rows ≡ Some row → (k : ℕ) × (k < length rows) × (q : ℕ) × ((d : Placed) → get_or rows k d ≡ (q, row))
place_at rows p row at =
    let i = place_from_lookup (nat_eq p) rows row at in
    (i.0, slice_get_within rows i.0 (i.1, row) i.2, i.1, λ d. get_or_from_slice_get rows i.0 (i.1, row) d i.2)

-- a lookup of the slab index at a position of the list finds the row at this position
pub found_at : (rows : List Placed) (at : ℕ) (r : Placed) → IsValidRows rows → at < length rows → get_or rows at r ≡ r → lookup (nat_eq r.0) rows ≡ Some r.1
found_at rows at r valid lt is = lookup_from_place nat_eq_equiv rows at r.0 r.1 valid.distinct (slice_get-get_or rows at r lt ∙ ap (λ (x : Placed). Some x) is)

all_at : (P : Placed → Type 0) (rows : List Placed) (at : ℕ) (r : Placed) → AllByRecursion P rows → at < length rows → get_or rows at r ≡ r → P r
all_at P rows at r h lt is = subst P is (All-from_recursion P rows h at r lt)

-- the Data of the row at a position of the list is cached
pub is_cached_at : (rows : List Placed) (used : List (ℕ × ℕ)) (next : ℕ) → Sound rows used next → (at : ℕ) (r : Placed) → at < length rows → get_or rows at r ≡ r → Contains (cached_in rows used) (held_at r)
is_cached_at rows used next sound at r lt is =
    contains_cached (held_in rows) r.1.serial r.0 (held_at r) used
    (all_at (λ x. lookup (nat_eq x.1.serial) used ≡ Some x.0) rows at r sound.back lt is) (ap (λ o. option_map (λ (x : Row). x.entry) o) (found_at rows at r sound.valid lt is))

module _ (P : CachedData → Type 0) (rows : List Placed) (used : List (ℕ × ℕ)) (next : ℕ) (sound : Sound rows used next) where
  pub each : (Q : CachedData → Type 0) → ((k : ℕ) (row : Row) (q : ℕ) → k < length rows → ((d : Placed) → get_or rows k d ≡ (q, row)) → Q row.entry) → All Q (cached_in rows used)
  each Q f =
      All-from_recursion Q _ (all_cached (held_in rows) Q used (all_map (LeadsTo rows) (λ u. (d : CachedData) → held_in rows u.1 ≡ Some d → Q d)
      (λ u leads d there.
      let at = place_at rows u.1 leads.row leads.there in
      subst Q (sym (held_at_is (lookup (nat_eq u.1) rows) leads.row d leads.there there)) (f at.0 leads.row at.2 at.1 at.3)) used sound.there))

  pub none_serves : FirstWith P rows None → All (λ c. P c → ⊥) (cached_in rows used)
  none_serves first = each (λ c. P c → ⊥) (λ k row q lt is has. first k (q, row) lt (subst (λ (r : Placed). P (held_at r)) (sym (is (q, row))) has))

  pub first_is_least : (at : ℕ) (r : Placed) → get_or rows at r ≡ r → FirstWith P rows (Some at) → IsLeast P (cached_in rows used) (held_at r)
  first_is_least at r is first =
      record {
        is_cached = is_cached_at rows used next sound at r first.0 is;
        has = subst (λ (x : Placed). P (held_at x)) is (first.1 r);
        none_less = each (λ d. P d → Less (full_name_of d) (name_at r) → ⊥)
            (λ k row q lt here has less. elim (order_of k at) [
              | inl before ↦ first.2 k (q, row) before (subst (λ (x : Placed). P (held_at x)) (sym (here (q, row))) has)
              | inr (inl same) ↦
                  let one : (q, row) ≡ r = sym (here r) ∙ ap (λ n. get_or rows n r) same ∙ is in
                  Less-irreflexive (name_at r) (subst (λ (x : Placed). Less (name_at x) (name_at r)) one less)
              | inr (inr after) ↦
                  let rise : name_cmp (name_at r) (full_name_of row.entry) ≡ Lt = sym (λ i. name_cmp (name_at (is i)) (name_at (here r i))) ∙ sound.valid.rising at k r after lt in
                  Less-irreflexive (name_at r) (Less-transitive _ _ _ (less-name_cmp (name_at r) (full_name_of row.entry) rise) less)
            ]);
      }
    where
      order_of : (m n : ℕ) → (m < n) ⊎ ((m ≡ n) ⊎ (n < m))
      order_of m n = grind arith

-- no two cached Data have the same full name
pub once_in : (rows : List Placed) → Rising rows → (used : List (ℕ × ℕ)) → IsDistinct nat_eq (keys_of used) → AllByRecursion (LeadsTo rows) used → EachOnce (cached_in rows used)
unfolding cached_by
once_in rows rising [] distinct there = tt
once_in rows rising (u ∷ us) distinct there = split (held_in rows u.1) (λ d e. others d e us (IsDistinct-head nat_eq u.0 (keys_of us) distinct) there.1) (once_in rows rising us (IsDistinct-tail nat_eq u.0 (keys_of us) distinct) there.1)
  where
    differs : (d : CachedData) → held_in rows u.1 ≡ Some d → (v : ℕ × ℕ) → nat_eq u.0 v.0 ≡ false → LeadsTo rows v → (e : CachedData) → held_in rows v.1 ≡ Some e → (full_name_of d) ≡ (full_name_of e) → ⊥
    differs d at v ne leads e there' same =
        let mine = there.0 in
        let d_is = held_at_is (lookup (nat_eq u.1) rows) mine.row d mine.there at in
        let e_is = held_at_is (lookup (nat_eq v.1) rows) leads.row e leads.there there' in
        let one = one_row rows rising u.1 v.1 mine.row leads.row mine.there leads.there (ap full_name_of (sym d_is) ∙ same ∙ ap full_name_of e_is) in
        eqb-false u.0 v.0 ne (sym mine.its ∙ ap (λ (r : Row). r.serial) one ∙ leads.its)

    spread : (d : CachedData) → held_in rows u.1 ≡ Some d → (vs : List (ℕ × ℕ)) → AllByRecursion (λ t. nat_eq u.0 t ≡ false) (keys_of vs) → AllByRecursion (LeadsTo rows) vs
        → AllByRecursion (λ v. (e : CachedData) → held_in rows v.1 ≡ Some e → (full_name_of d) ≢ (full_name_of e)) vs
    spread d at [] ne leads = tt
    spread d at (v ∷ vs) ne leads = (differs d at v ne.0 leads.0, spread d at vs ne.1 leads.1)

    others : (d : CachedData) → held_in rows u.1 ≡ Some d → (vs : List (ℕ × ℕ)) → AllByRecursion (λ t. nat_eq u.0 t ≡ false) (keys_of vs) → AllByRecursion (LeadsTo rows) vs
        → AllByRecursion (λ e. (full_name_of d) ≢ (full_name_of e)) (cached_by (held_in rows) vs)
    others d at vs ne leads = all_cached (held_in rows) (λ e. (full_name_of d) ≢ (full_name_of e)) vs (spread d at vs ne leads)

    split : (o : Option CachedData) → ((d : CachedData) → o ≡ Some d → AllByRecursion (λ e. (full_name_of d) ≢ (full_name_of e)) (cached_by (held_in rows) us)) → EachOnce (cached_by (held_in rows) us) → EachOnce (with_held o (cached_by (held_in rows) us))
    split None f rest = rest
    split (Some d) f rest = (f d refl, rest)

pub held_store : (rows : List Placed) (used : LruCache ℕ ℕ) (capacity next : ℕ) → IsHeld rows used capacity next → IsStore (record { cached = cached_in rows used.entries; capacity = capacity })
held_store rows used capacity next h =
    let fits = h.within in
    record {
      not_none = h.low;
      at_most_65536 = h.high;
      within_capacity = omega (arith, length_cached (held_in rows) used.entries);
      each_once = once_in rows h.sound.valid.rising used.entries h.sound.distinct h.sound.there;
      each_data = each IsCachedData rows used.entries next h.sound IsCachedData
          (λ k row q lt here. let d : Placed = (q, row) in
          subst (λ (x : Placed). IsCachedData x.1.entry) (here d) (All-from_recursion (λ (x : Placed). IsCachedData x.1.entry) rows h.sound.each_data k d lt));
    }

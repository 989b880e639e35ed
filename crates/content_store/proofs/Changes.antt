-- The cached Data after one is added, after one is removed, and after the least recently used one
-- is evicted because the store is full.
use Rattle.std.proofs.Common.{◌≡◌, ℕ, zero, suc, ◌+◌, ◌-◌, ◌<◌, ◌≤◌, Bool, true, false, cond, eqb, eq-eqb, List, [], ◌∷◌, length, take, insert, refl, sym, ap, subst, ◌∙◌, arith}
use borrow.Author.Tests.{eqb-false, ne_eqb}
use Rattle.std.specs.Prelude.{Option, None, Some, IsSome, nat_eq, slice_get}
use Rattle.std.specs.Option.{option_map}
use Rattle.std.specs.List.{AllByRecursion, IsDistinct}
use Rattle.std.specs.Map.{keys_of, lookup, remove_entry}
use Rattle.std.proofs.lemmas.Option.{same_Some}
use Rattle.std.proofs.lemmas.List.Edits.{length-insert}
use Rattle.std.proofs.lemmas.List.{length-take}
use Rattle.std.proofs.lemmas.Map.Keys.{IsDistinct-head, IsDistinct-tail, IsDistinct-cons}
use Rattle.content_store.specs.declared.rows.Row.{Row}
use Rattle.content_store.specs.Store.{CachedData, IsCachedData, full_name_of, without}
use Rattle.content_store.specs.Rows.{Placed, IsValidRows}
use Rattle.lru.specs.LruCache.{LruCache, lru_cache, put_entries, displaced}
use Rattle.std.specs.Option.{option_map_or}
use Rattle.std.specs.Map.{lookup_entry}
use Rattle.content_store.specs.Uses.{evicted, PutsNew, with_held, cached_by, held_in, cached_in, LeadsTo, Sound, IsHeld}
use Rattle.content_store.proofs.Shown.{some_is}
use Rattle.content_store.proofs.Uses.{all_map, all_removed, all_found, lookup_other, others_left, distinct_removed, length_front, taken_out, alone_in}

-- ---- properties of lists, and lookups after an insertion
pub all_both : {X : Type 0} (P Q : X → Type 0) (xs : List X) → AllByRecursion P xs → AllByRecursion Q xs → AllByRecursion (λ x. P x × Q x) xs
all_both P Q [] h k = tt
all_both P Q (x ∷ xs) h k = ((h.0, k.0), all_both P Q xs h.1 k.1)

pub from_keys : {X : Type 0} (P : ℕ → Type 0) (us : List (ℕ × X)) → AllByRecursion P (keys_of us) → AllByRecursion (λ u. P u.0) us
from_keys P [] h = tt
from_keys P (u ∷ us) h = (h.0, from_keys P us h.1)

to_keys : {X : Type 0} (P : ℕ → Type 0) (us : List (ℕ × X)) → AllByRecursion (λ u. P u.0) us → AllByRecursion P (keys_of us)
to_keys P [] h = tt
to_keys P (u ∷ us) h = (h.0, to_keys P us h.1)

pub all_insert : {X : Type 0} (P : X → Type 0) (xs : List X) (at : ℕ) (y : X) → P y → AllByRecursion P xs → AllByRecursion P (insert xs at y)
all_insert P xs zero y py h = (py, h)
all_insert P [] (suc at) y py h = (py, h)
all_insert P (x ∷ xs) (suc at) y py h = (h.0, all_insert P xs at y py h.1)

-- if a new key is inserted at any position, a lookup of this key finds its value
lookup_inserted : {X : Type 0} (p : ℕ) (x : X) (rows : List (ℕ × X)) (at : ℕ) → lookup (nat_eq p) rows ≡ None → lookup (nat_eq p) (insert rows at (p, x)) ≡ Some x
lookup_inserted p x rows zero none = ap (λ b. cond b (Some x) (lookup (nat_eq p) rows)) (eq-eqb p p refl)
lookup_inserted p x [] (suc at) none = ap (λ b. cond b (Some x) None) (eq-eqb p p refl)
lookup_inserted {X} p x (r ∷ rows) (suc at) none = split (eqb p r.0) none (lookup_inserted p x rows at)
  where
    split : (b : Bool) → cond b (Some r.1) (lookup (nat_eq p) rows) ≡ None → (lookup (nat_eq p) rows ≡ None → lookup (nat_eq p) (insert rows at (p, x)) ≡ Some x)
        → cond b (Some r.1) (lookup (nat_eq p) (insert rows at (p, x))) ≡ Some x
    split true f again = absurd cc
    split false f again = again f

lookup_beside : {X : Type 0} (q p : ℕ) (x : X) (rows : List (ℕ × X)) (at : ℕ) → eqb q p ≡ false → lookup (nat_eq q) (insert rows at (p, x)) ≡ lookup (nat_eq q) rows
lookup_beside q p x rows zero ne = ap (λ b. cond b (Some x) (lookup (nat_eq q) rows)) ne
lookup_beside q p x [] (suc at) ne = ap (λ b. cond b (Some x) None) ne
lookup_beside q p x (r ∷ rows) (suc at) ne = ap (λ o. cond (eqb q r.0) (Some r.1) o) (lookup_beside q p x rows at ne)

-- ---- the list of cached Data that `cached_by` returns
pub cached_kept : (g f : ℕ → Option CachedData) (us : List (ℕ × ℕ)) → AllByRecursion (λ u. f u.1 ≡ g u.1) us → cached_by f us ≡ cached_by g us
unfolding cached_by
cached_kept g f [] h = refl
cached_kept g f (u ∷ us) h = (λ i. with_held (h.0 i) (cached_kept g f us h.1 i))

pub take_cached : (g : ℕ → Option CachedData) (n : ℕ) (us : List (ℕ × ℕ)) → AllByRecursion (λ u. IsSome (g u.1)) us → cached_by g (take n us) ≡ take n (cached_by g us)
unfolding cached_by
take_cached g zero us h = refl
take_cached g (suc n) [] h = refl
take_cached g (suc n) (u ∷ us) h =
    let d = some_is (g u.1) h.0 in
    ap (λ o. with_held o (cached_by g (take n us))) d.1 ∙ ap (λ l. d.0 ∷ l) (take_cached g n us h.1) ∙ sym (ap (λ o. take (suc n) (with_held o (cached_by g us))) d.1)

some_held : (rows : List Placed) (u : ℕ × ℕ) → LeadsTo rows u → IsSome (held_in rows u.1)
some_held rows u leads = subst (λ (o : Option Row). IsSome (option_map (λ (r : Row). r.entry) o)) (sym leads.there) refl

length_all : (g : ℕ → Option CachedData) (us : List (ℕ × ℕ)) → AllByRecursion (λ u. IsSome (g u.1)) us → length (cached_by g us) ≡ length us
unfolding cached_by
length_all g [] h = refl
length_all g (u ∷ us) h =
    let d = some_is (g u.1) h.0 in
    ap (λ o. length (with_held o (cached_by g us))) d.1 ∙ ap (λ n. suc n) (length_all g us h.1)

pub length_held : (rows : List Placed) (used : List (ℕ × ℕ)) (next : ℕ) → Sound rows used next → length (cached_in rows used) ≡ length rows
length_held rows used next sound =
    length_all (held_in rows) used (all_map (LeadsTo rows) (λ u. IsSome (held_in rows u.1)) (some_held rows) used sound.there) ∙ sym sound.long

-- ---- the addition of one row
module _ (rows : List Placed) (used : List (ℕ × ℕ)) (s p at : ℕ) (row : Row) (sound : Sound rows used s) (absent : lookup (nat_eq p) rows ≡ None) (its : row.serial ≡ s)
    (le : at ≤ length rows) (valid : IsValidRows (insert rows at (p, row))) (data' : IsCachedData row.entry) where
  beside : (u : ℕ × ℕ) → LeadsTo rows u → lookup (nat_eq u.1) (insert rows at (p, row)) ≡ lookup (nat_eq u.1) rows
  beside u leads =
      lookup_beside u.1 p row rows at (ne_eqb u.1 p (λ e. (let a : lookup (nat_eq p) rows ≡ Some leads.row = ap (λ n. lookup (nat_eq n) rows) (sym e) ∙ leads.there in cc)))

  pub sound_more : Sound (insert rows at (p, row)) ((s, p) ∷ used) (s + 1)
  sound_more = record {
    valid = valid;
    distinct = IsDistinct-cons nat_eq s (keys_of used)
        (to_keys (λ t. nat_eq s t ≡ false) used (all_map (λ u. u.0 < s) (λ u. nat_eq s u.0 ≡ false) (λ u lt. ne_eqb s u.0 (λ e. absurd (omega arith))) used sound.below))
        sound.distinct;
    there = (
      record { row = row; there = lookup_inserted p row rows at absent; its = its },
      all_map (LeadsTo rows) (LeadsTo (insert rows at (p, row))) (λ u leads. record { row = leads.row; there = beside u leads ∙ leads.there; its = leads.its }) used sound.there,
    );
    back = all_insert (λ r. lookup (nat_eq r.1.serial) ((s, p) ∷ used) ≡ Some r.0) rows at (p, row)
        (ap (λ b. cond b (Some p) (lookup (nat_eq row.serial) used)) (eq-eqb row.serial s its))
        (all_map (λ r. lookup (nat_eq r.1.serial) used ≡ Some r.0) (λ r. lookup (nat_eq r.1.serial) ((s, p) ∷ used) ≡ Some r.0)
        (λ r h. let lt : r.1.serial < s = all_found (λ u. u.0 < s) r.1.serial r.0 used sound.below h in
        ap (λ b. cond b (Some p) (lookup (nat_eq r.1.serial) used)) (ne_eqb r.1.serial s (λ e. absurd (omega arith))) ∙ h) rows sound.back);
    below = (omega arith, all_map (λ u. u.0 < s) (λ u. u.0 < s + 1) (λ u lt. omega arith) used sound.below);
    long = length-insert rows at (p, row) le ∙ ap (λ n. n + 1) sound.long ∙ omega arith;
    each_data = all_insert (λ r. IsCachedData r.1.entry) rows at (p, row) data' sound.each_data;
  }

  pub cached_more : cached_in (insert rows at (p, row)) ((s, p) ∷ used) ≡ row.entry ∷ cached_in rows used
  unfolding cached_by
  cached_more =
      ap (λ o. with_held (option_map (λ (r : Row). r.entry) o) (cached_in (insert rows at (p, row)) used)) (lookup_inserted p row rows at absent)
      ∙ ap (λ l. row.entry ∷ l) (cached_kept (held_in rows) (held_in (insert rows at (p, row))) used
      (all_map (LeadsTo rows) (λ u. held_in (insert rows at (p, row)) u.1 ≡ held_in rows u.1) (λ u leads. ap (λ o. option_map (λ (r : Row). r.entry) o) (beside u leads)) used sound.there))

-- ---- the removal of one row
module _ (rows : List Placed) (used : List (ℕ × ℕ)) (next s p : ℕ) (row : Row) (sound : Sound rows used next) (uses : lookup (nat_eq s) used ≡ Some p) (at : lookup (nat_eq p) rows ≡ Some row)
    (its : row.serial ≡ s) (valid : IsValidRows (remove_entry (nat_eq p) rows)) where
  left : AllByRecursion (λ u. LeadsTo rows u × (nat_eq s u.0 ≡ false)) (remove_entry (nat_eq s) used)
  left = all_both (LeadsTo rows) (λ u. nat_eq s u.0 ≡ false) _ (all_removed (LeadsTo rows) s used sound.there)
      (from_keys (λ t. nat_eq s t ≡ false) (remove_entry (nat_eq s) used) (others_left s used sound.distinct))

  other_place : (u : ℕ × ℕ) → LeadsTo rows u × (nat_eq s u.0 ≡ false) → lookup (nat_eq u.1) (remove_entry (nat_eq p) rows) ≡ lookup (nat_eq u.1) rows
  other_place u h =
      lookup_other p u.1 rows (ne_eqb u.1 p (λ e.
      let one : h.0.row ≡ row = same_Some h.0.row row (sym h.0.there ∙ ap (λ n. lookup (nat_eq n) rows) e ∙ at) in
      eqb-false s u.0 h.1 (sym its ∙ ap (λ (r : Row). r.serial) (sym one) ∙ h.0.its)))

  pub sound_fewer : Sound (remove_entry (nat_eq p) rows) (remove_entry (nat_eq s) used) next
  sound_fewer = record {
    valid = valid;
    distinct = distinct_removed s used sound.distinct;
    there = all_map (λ u. LeadsTo rows u × (nat_eq s u.0 ≡ false)) (LeadsTo (remove_entry (nat_eq p) rows))
        (λ u h. record { row = h.0.row; there = other_place u h ∙ h.0.there; its = h.0.its }) _ left;
    back = all_map (λ r. (lookup (nat_eq r.1.serial) used ≡ Some r.0) × (nat_eq p r.0 ≡ false)) (λ r. lookup (nat_eq r.1.serial) (remove_entry (nat_eq s) used) ≡ Some r.0)
        (λ r h. lookup_other s r.1.serial used (ne_eqb r.1.serial s (λ e.
        eqb-false p r.0 h.1 (same_Some p r.0 (sym uses ∙ ap (λ n. lookup (nat_eq n) used) (sym e) ∙ h.0)))) ∙ h.0)
        _ (all_both (λ r. lookup (nat_eq r.1.serial) used ≡ Some r.0) (λ r. nat_eq p r.0 ≡ false) _ (all_removed (λ r. lookup (nat_eq r.1.serial) used ≡ Some r.0) p rows sound.back)
        (from_keys (λ t. nat_eq p t ≡ false) (remove_entry (nat_eq p) rows) (others_left p rows sound.valid.distinct)));
    below = all_removed (λ u. u.0 < next) s used sound.below;
    long = omega (arith, length_front p row rows at, length_front s p used uses, sound.long);
    each_data = all_removed (λ r. IsCachedData r.1.entry) p rows sound.each_data;
  }

  pub kept_fewer : cached_in (remove_entry (nat_eq p) rows) (remove_entry (nat_eq s) used) ≡ cached_in rows (remove_entry (nat_eq s) used)
  kept_fewer = cached_kept (held_in rows) (held_in (remove_entry (nat_eq p) rows)) (remove_entry (nat_eq s) used)
      (all_map (λ u. LeadsTo rows u × (nat_eq s u.0 ≡ false)) (λ u. held_in (remove_entry (nat_eq p) rows) u.1 ≡ held_in rows u.1)
      (λ u h. ap (λ o. option_map (λ (r : Row). r.entry) o) (other_place u h)) _ left)

  pub cached_fewer : cached_in (remove_entry (nat_eq p) rows) (remove_entry (nat_eq s) used) ≡ without (full_name_of row.entry) (cached_in rows used)
  cached_fewer =
      kept_fewer ∙ taken_out (held_in rows) s (full_name_of row.entry) used p row.entry sound.distinct
      (subst (λ (n : ℕ). AllByRecursion (λ u. (d : CachedData) → held_in rows u.1 ≡ Some d → (full_name_of d) ≡ (full_name_of row.entry) → u.0 ≡ n) used) its (alone_in rows used next sound p row at))
      uses (ap (λ o. option_map (λ (r : Row). r.entry) o) at) refl

-- ---- the eviction of the least recently used row
pub take_whole : {X : Type 0} (n : ℕ) (us : List (ℕ × X)) → slice_get us n ≡ None → take n us ≡ us
take_whole zero [] e = refl
take_whole zero (u ∷ us) e = absurd cc
take_whole (suc n) [] e = refl
take_whole (suc n) (u ∷ us) e = ap (λ l. u ∷ l) (take_whole n us e)

-- if `e` is the last element of a list of n + 1 elements with distinct keys, the first n elements
-- are the list without `e`, and a lookup of the key of `e` finds the value of `e`
pub take_last : {X : Type 0} (n : ℕ) (us : List (ℕ × X)) (e : ℕ × X) → IsDistinct nat_eq (keys_of us) → length us ≤ n + 1 → slice_get us n ≡ Some e
    → (take n us ≡ remove_entry (nat_eq e.0) us) × (lookup (nat_eq e.0) us ≡ Some e.1)
take_last zero [] e distinct le at = absurd cc
take_last zero (u ∷ []) e distinct le at =
    let same : e ≡ u = sym (same_Some u e at) in
    let t : eqb e.0 u.0 ≡ true = eq-eqb e.0 u.0 (ap (λ (x : ℕ × _). x.0) same) in
    (sym (ap (λ b. cond b [] (u ∷ [])) t), ap (λ b. cond b (Some u.1) None) t ∙ ap (λ (x : ℕ × _). Some x.1) (sym same))
take_last zero (u ∷ v ∷ us) e distinct le at = absurd (omega arith)
take_last (suc n) [] e distinct le at = absurd cc
take_last {X} (suc n) (u ∷ us) e distinct le at =
    let rest = take_last n us e (IsDistinct-tail nat_eq u.0 (keys_of us) distinct) (omega arith) at in
    let ne : nat_eq u.0 e.0 ≡ false = all_found (λ (x : ℕ × X). nat_eq u.0 x.0 ≡ false) e.0 e.1 us (from_keys (λ t. nat_eq u.0 t ≡ false) us (IsDistinct-head nat_eq u.0 (keys_of us) distinct)) rest.1 in
    let t : eqb e.0 u.0 ≡ false = ne_eqb e.0 u.0 (λ s. eqb-false u.0 e.0 ne (sym s)) in (
      ap (λ l. u ∷ l) rest.0 ∙ sym (ap (λ b. cond b us (u ∷ remove_entry (nat_eq e.0) us)) t),
      ap (λ b. cond b (Some u.1) (lookup (nat_eq e.0) us)) t ∙ rest.1,
    )

pub sound_kept : (rows : List Placed) (used : List (ℕ × ℕ)) (next n : ℕ) (gone : Option (ℕ × ℕ)) → Sound rows used next → length used ≤ n + 1 → slice_get used n ≡ gone
    → IsValidRows (evicted gone rows) → Sound (evicted gone rows) (take n used) next × (cached_in (evicted gone rows) (take n used) ≡ take n (cached_in rows used))
sound_kept rows used next n None sound le at valid = (
  subst (λ (us : List (ℕ × ℕ)). Sound rows us next) (sym (take_whole n used at)) sound,
  take_cached (held_in rows) n used (all_map (LeadsTo rows) (λ u. IsSome (held_in rows u.1)) (some_held rows) used sound.there),
)
sound_kept rows used next n (Some e) sound le at valid =
    let last = take_last n used e sound.distinct le at in
    let leads = all_found (LeadsTo rows) e.0 e.1 used sound.there last.1 in (
      subst (λ (us : List (ℕ × ℕ)). Sound (remove_entry (nat_eq e.1) rows) us next) (sym last.0) (sound_fewer rows used next e.0 e.1 leads.row sound last.1 leads.there leads.its valid),
      ap (cached_in (remove_entry (nat_eq e.1) rows)) last.0 ∙ kept_fewer rows used next e.0 e.1 leads.row sound last.1 leads.there leads.its valid
          ∙ ap (cached_in rows) (sym last.0) ∙ take_cached (held_in rows) n used (all_map (LeadsTo rows) (λ u. IsSome (held_in rows u.1)) (some_held rows) used sound.there),
    )

-- if all serial numbers in `us` are less than `s`, a lookup of `s` in `us` finds nothing
pub not_used : (s : ℕ) (us : List (ℕ × ℕ)) → AllByRecursion (λ u. u.0 < s) us → (lookup (nat_eq s) us ≡ None) × (lookup_entry (nat_eq s) us ≡ None)
not_used s [] h = (refl, refl)
not_used s (u ∷ us) h =
    let lt = h.0 in
    let ne : eqb s u.0 ≡ false = ne_eqb s u.0 (λ e. absurd (omega arith)) in
    let rest = not_used s us h.1 in
    (ap (λ b. cond b (Some u.1) (lookup (nat_eq s) us)) ne ∙ rest.0, ap (λ b. cond b (Some u) (lookup_entry (nat_eq s) us)) ne ∙ rest.1)

front_cap : (n m : ℕ) (e : ℕ × ℕ) (us : List (ℕ × ℕ)) → m ≡ suc n → (take m (e ∷ us) ≡ e ∷ take (m - 1) us) × (slice_get (e ∷ us) m ≡ slice_get us (m - 1))
front_cap n m e us is =
    let one : m - 1 ≡ n = omega arith in
    (ap (λ k. take k (e ∷ us)) is ∙ ap (λ k. e ∷ take k us) (sym one), ap (λ k. slice_get (e ∷ us) k) is ∙ ap (λ k. slice_get us k) (sym one))

pub held_put : (rows rows' : List Placed) (used used' : LruCache ℕ ℕ) (capacity at : ℕ) (row : Row) → IsHeld rows used capacity row.serial → IsCachedData row.entry → at ≤ length rows → PutsNew rows used at row rows' used'
    → IsHeld rows' used' capacity (row.serial + 1) × (cached_in rows' used'.entries ≡ take capacity (row.entry ∷ cached_in rows used.entries))
held_put rows rows' used used' capacity at row h data' le put =
    let s = row.serial in
    let none = not_used s used.entries h.sound.below in
    let low = h.low in
    let cap = h.cap in
    let fits = h.within in
    let front = front_cap (used.cap - 1) used.cap (s, put.place) used.entries (omega arith) in
    let entries : put_entries nat_eq used s put.place ≡ take used.cap ((s, put.place) ∷ used.entries) =
    ap (λ o. option_map_or (λ (e : ℕ × ℕ). (e.0, put.place) ∷ remove_entry (nat_eq s) used.entries) o ((s, put.place) ∷ take (used.cap - 1) used.entries)) none.1 ∙ sym front.0 in
    let gone : displaced nat_eq used s put.place ≡ slice_get ((s, put.place) ∷ used.entries) used.cap =
    ap (λ o. option_map_or (λ (old : ℕ). Some (s, old)) o (slice_get used.entries (used.cap - 1))) none.0 ∙ sym front.1 in
    let more = sound_more rows used.entries s put.place at row h.sound put.absent refl le put.more data' in
    let rows_is : rows' ≡ evicted (slice_get ((s, put.place) ∷ used.entries) used.cap) (insert rows at (put.place, row)) = put.rows_are ∙ ap (λ o. evicted o (insert rows at (put.place, row))) gone in
    let kept = sound_kept (insert rows at (put.place, row)) ((s, put.place) ∷ used.entries) (s + 1) used.cap (slice_get ((s, put.place) ∷ used.entries) used.cap) more (omega arith) refl (subst IsValidRows rows_is put.valid) in
    let uses : used' ≡ lru_cache (take used.cap ((s, put.place) ∷ used.entries)) used.cap = put.uses ∙ ap (λ es. lru_cache es used.cap) entries in (
      record {
        sound = subst (λ (rs : List Placed). Sound rs used'.entries (s + 1)) (sym rows_is) (subst (λ (u : LruCache ℕ ℕ). Sound (evicted (slice_get ((s, put.place) ∷ used.entries) used.cap) (insert rows at (put.place, row))) u.entries (s + 1)) (sym uses) kept.0);
        cap = ap (λ (u : LruCache ℕ ℕ). u.cap) uses ∙ h.cap;
        within = omega (arith, ap (λ (u : LruCache ℕ ℕ). length u.entries) uses, length-take used.cap ((s, put.place) ∷ used.entries));
        low = h.low;
        high = h.high;
      },
      (λ i. cached_in (rows_is i) (uses i).entries) ∙ kept.1 ∙ (λ i. take (h.cap i) (cached_more rows used.entries s put.place at row h.sound put.absent refl le put.more data' i)),
    )

all_get : {X : Type 0} (P : X → Type 0) (us : List X) (n : ℕ) (e : X) → AllByRecursion P us → slice_get us n ≡ Some e → P e
all_get P [] n e h at = absurd cc
all_get P (u ∷ us) zero e h at = subst P (same_Some u e at) h.0
all_get P (u ∷ us) (suc n) e h at = all_get P us n e h.1 at

-- after the new row is inserted into the rows, the evicted row is one of the rows
pub displaced_there : (rows : List Placed) (used : LruCache ℕ ℕ) (s p at : ℕ) (row : Row) (e : ℕ × ℕ) → Sound rows used.entries s → lookup (nat_eq p) rows ≡ None
    → displaced nat_eq used s p ≡ Some e → IsSome (lookup (nat_eq e.1) (insert rows at (p, row)))
displaced_there rows used s p at row e sound absent is =
    let gone : slice_get used.entries (used.cap - 1) ≡ Some e =
    sym (ap (λ o. option_map_or (λ (old : ℕ). Some (s, old)) o (slice_get used.entries (used.cap - 1))) (not_used s used.entries sound.below).0) ∙ is in
    let leads = all_get (LeadsTo rows) used.entries (used.cap - 1) e sound.there gone in
    let found : lookup (nat_eq e.1) (insert rows at (p, row)) ≡ Some leads.row =
    lookup_beside e.1 p row rows at (ne_eqb e.1 p (λ q. (let a : lookup (nat_eq p) rows ≡ Some leads.row = ap (λ n. lookup (nat_eq n) rows) (sym q) ∙ leads.there in cc))) ∙ leads.there in
    subst IsSome (sym found) refl

pub some_inserted : (rows : List Placed) (p at : ℕ) (row : Row) → lookup (nat_eq p) rows ≡ None → IsSome (lookup (nat_eq p) (insert rows at (p, row)))
some_inserted rows p at row absent = subst IsSome (sym (lookup_inserted p row rows at absent)) refl

-- if no row of a list has the slab index of a new row, inserting the new row and then removing it
-- restores the list
pub removed_again : {X : Type 0} (p : ℕ) (x : X) (rows : List (ℕ × X)) (at : ℕ) → lookup (nat_eq p) rows ≡ None → remove_entry (nat_eq p) (insert rows at (p, x)) ≡ rows
removed_again p x rows zero none = ap (λ b. cond b rows ((p, x) ∷ remove_entry (nat_eq p) rows)) (eq-eqb p p refl)
removed_again p x [] (suc at) none = ap (λ b. cond b [] ((p, x) ∷ [])) (eq-eqb p p refl)
removed_again {X} p x (r ∷ rows) (suc at) none = split (eqb p r.0) none (removed_again p x rows at)
  where
    split : (b : Bool) → cond b (Some r.1) (lookup (nat_eq p) rows) ≡ None → (lookup (nat_eq p) rows ≡ None → remove_entry (nat_eq p) (insert rows at (p, x)) ≡ rows)
        → cond b (insert rows at (p, x)) (r ∷ remove_entry (nat_eq p) (insert rows at (p, x))) ≡ r ∷ rows
    split true f again = absurd cc
    split false f again = ap (λ l. r ∷ l) (again f)

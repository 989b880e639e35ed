-- An entry is replaced by another one with the same full name.
use Rattle.std.proofs.Common.{◌≡◌, ◌≢◌, ◌⊎◌, inl, inr, ℕ, suc, ◌<◌, ◌≤◌, Bool, true, false, cond, eqb, eqb-true, eq-eqb, List, [], ◌∷◌, length, get_or, take, refl, sym, ap, subst, ◌∙◌, arith}
use borrow.Author.Tests.{eqb-false, ne_eqb}
use Rattle.std.specs.Prelude.{Some, nat_eq}
use Rattle.std.specs.Option.{option_map}
use Rattle.std.specs.List.{AllByRecursion}
use Rattle.std.specs.Map.{lookup, remove_entry, set_value}
use Rattle.std.proofs.lemmas.Option.{same_Some}
use Rattle.std.proofs.lemmas.Map.Keys.{IsDistinct-from_apart}
use Rattle.lru.specs.LruCache.{promoted}
use Rattle.content_store.specs.declared.rows.Row.{Row}
use Rattle.content_store.specs.Store.{CachedData, IsCachedData, full_name_of, without}
use Rattle.content_store.specs.Rows.{Placed, IsValidRows}
use Rattle.content_store.specs.Uses.{cached_by, held_in, cached_in, LeadsTo, Sound}
use Rattle.content_store.proofs.Uses.{all_map, all_removed, others_left, taken_out, alone_in, used_first}
use Rattle.lru.specs.LruCache.{LruCache, lru_cache}
use Rattle.std.proofs.lemmas.List.{take_all}
use Rattle.content_store.specs.Rows.{name_at}
use Rattle.content_store.specs.Uses.{Renews, IsHeld}
use Rattle.content_store.proofs.Uses.{sound_used, promoted_to, length_front}
use Rattle.content_store.proofs.Least.{found_at, length_cached}
use Rattle.content_store.proofs.Promotes.{stands_at, uses_at}
use Rattle.content_store.proofs.Changes.{all_both, from_keys, cached_kept}
use Rattle.content_store.proofs.Given.{seen}

all_valued : {X : Type 0} (P : ℕ × X → Type 0) (p : ℕ) (x : X) (rows : List (ℕ × X)) → P (p, x) → AllByRecursion P rows → AllByRecursion P (set_value (nat_eq p) rows x)
all_valued P p x [] px h = tt
all_valued {X} P p x (r ∷ rows) px h = split (eqb p r.0) refl (all_valued P p x rows px h.1)
  where
    split : (b : Bool) → eqb p r.0 ≡ b → AllByRecursion P (set_value (nat_eq p) rows x) → AllByRecursion P (cond b ((r.0, x) ∷ rows) (r ∷ set_value (nat_eq p) rows x))
    split true e rest = (subst (λ (n : ℕ). P (n, x)) (eqb-true p r.0 e) px, h.1)
    split false e rest = (h.0, rest)

lookup_valued : {X : Type 0} (q p : ℕ) (x y : X) (rows : List (ℕ × X)) → lookup (nat_eq p) rows ≡ Some y → (q ≡ p → lookup (nat_eq q) (set_value (nat_eq p) rows x) ≡ Some x)
    × (q ≢ p → lookup (nat_eq q) (set_value (nat_eq p) rows x) ≡ lookup (nat_eq q) rows)
lookup_valued q p x y [] e = absurd cc
lookup_valued {X} q p x y (r ∷ rows) e = split (eqb p r.0) refl e (lookup_valued q p x y rows)
  where
    split : (b : Bool) → eqb p r.0 ≡ b → cond b (Some r.1) (lookup (nat_eq p) rows) ≡ Some y
        → (lookup (nat_eq p) rows ≡ Some y → (q ≡ p → lookup (nat_eq q) (set_value (nat_eq p) rows x) ≡ Some x) × (q ≢ p → lookup (nat_eq q) (set_value (nat_eq p) rows x) ≡ lookup (nat_eq q) rows))
        → (q ≡ p → lookup (nat_eq q) (cond b ((r.0, x) ∷ rows) (r ∷ set_value (nat_eq p) rows x)) ≡ Some x)
        × (q ≢ p → lookup (nat_eq q) (cond b ((r.0, x) ∷ rows) (r ∷ set_value (nat_eq p) rows x)) ≡ cond (eqb q r.0) (Some r.1) (lookup (nat_eq q) rows))
    split true t f again = (
      λ s. ap (λ b. cond b (Some x) (lookup (nat_eq q) rows)) (eq-eqb q r.0 (s ∙ eqb-true p r.0 t)),
      λ ne. let n : eqb q r.0 ≡ false = ne_eqb q r.0 (λ s. ne (s ∙ sym (eqb-true p r.0 t))) in
          ap (λ b. cond b (Some x) (lookup (nat_eq q) rows)) n ∙ sym (ap (λ b. cond b (Some r.1) (lookup (nat_eq q) rows)) n),
    )
    split false t f again = (
      λ s. ap (λ b. cond b (Some r.1) (lookup (nat_eq q) (set_value (nat_eq p) rows x))) (ne_eqb q r.0 (λ k. eqb-false p r.0 t (sym s ∙ k))) ∙ (again f).0 s,
      λ ne. ap (λ o. cond (eqb q r.0) (Some r.1) o) ((again f).1 ne),
    )

length_valued : {X : Type 0} (p : ℕ) (x : X) (rows : List (ℕ × X)) → length (set_value (nat_eq p) rows x) ≡ length rows
length_valued p x [] = refl
length_valued p x (r ∷ rows) = split (eqb p r.0) (length_valued p x rows)
  where
    split : (b : Bool) → length (set_value (nat_eq p) rows x) ≡ length rows → length (cond b ((r.0, x) ∷ rows) (r ∷ set_value (nat_eq p) rows x)) ≡ suc (length rows)
    split true h = refl
    split false h = ap (λ n. suc n) h

same_or_not : (q p : ℕ) → (q ≡ p) ⊎ (q ≢ p)
same_or_not q p = split (eqb q p) refl
  where
    split : (b : Bool) → eqb q p ≡ b → (q ≡ p) ⊎ (q ≢ p)
    split true e = inl (eqb-true q p e)
    split false e = inr (eqb-false q p e)

module _ (rows : List Placed) (used : List (ℕ × ℕ)) (next p : ℕ) (row new : Row) (sound : Sound rows used next) (at : lookup (nat_eq p) rows ≡ Some row) (uses : lookup (nat_eq row.serial) used ≡ Some p)
    (its : new.serial ≡ row.serial) (named : (full_name_of new.entry) ≡ (full_name_of row.entry)) (valid : IsValidRows (set_value (nat_eq p) rows new)) (data' : IsCachedData new.entry) where
  pub sound_renewed : Sound (set_value (nat_eq p) rows new) used next
  sound_renewed = record {
    valid = valid;
    distinct = sound.distinct;
    there = all_map (LeadsTo rows) (LeadsTo (set_value (nat_eq p) rows new))
        (λ u leads. elim (same_or_not u.1 p) [
          | inl e ↦ record {
            row = new;
            there = (lookup_valued u.1 p new row rows at).0 e;
            its = its ∙ ap (λ (r : Row). r.serial) (same_Some row leads.row (sym at ∙ ap (λ n. lookup (nat_eq n) rows) (sym e) ∙ leads.there)) ∙ leads.its;
          }
          | inr ne ↦ record { row = leads.row; there = (lookup_valued u.1 p new row rows at).1 ne ∙ leads.there; its = leads.its }
        ]) used sound.there;
    back = all_valued (λ r. lookup (nat_eq r.1.serial) used ≡ Some r.0) p new rows (ap (λ n. lookup (nat_eq n) used) its ∙ uses) sound.back;
    below = sound.below;
    long = length_valued p new rows ∙ sound.long;
    each_data = all_valued (λ r. IsCachedData r.1.entry) p new rows data' sound.each_data;
  }

  -- after the entry of a row is renewed and the row's serial number is promoted, the new entry is
  -- the first cached Data, followed by the other Data in their old order
  pub cached_renewed : cached_in (set_value (nat_eq p) rows new) (promoted (nat_eq row.serial) used) ≡ new.entry ∷ without (full_name_of new.entry) (cached_in rows used)
  cached_renewed =
      let now = (lookup_valued p p new row rows at).0 refl in
      let uses' : lookup (nat_eq new.serial) used ≡ Some p = ap (λ n. lookup (nat_eq n) used) its ∙ uses in
      let g = held_in rows in
      let f = held_in (set_value (nat_eq p) rows new) in
      let left = all_both (LeadsTo rows) (λ u. nat_eq row.serial u.0 ≡ false) _ (all_removed (LeadsTo rows) row.serial used sound.there)
      (from_keys (λ t. nat_eq row.serial t ≡ false) (remove_entry (nat_eq row.serial) used) (others_left row.serial used sound.distinct)) in
      let kept : cached_by f (remove_entry (nat_eq row.serial) used) ≡ cached_by g (remove_entry (nat_eq row.serial) used) =
      cached_kept g f (remove_entry (nat_eq row.serial) used)
      (all_map (λ u. LeadsTo rows u × (nat_eq row.serial u.0 ≡ false)) (λ u. f u.1 ≡ g u.1)
      (λ u h. ap (λ o. option_map (λ (r : Row). r.entry) o) ((lookup_valued u.1 p new row rows at).1 (λ e.
      let one : row ≡ h.0.row = same_Some row h.0.row (sym at ∙ ap (λ n. lookup (nat_eq n) rows) (sym e) ∙ h.0.there) in
      eqb-false row.serial u.0 h.1 (ap (λ (r : Row). r.serial) one ∙ h.0.its)))) _ left) in
      let before = taken_out g row.serial (full_name_of row.entry) used p row.entry sound.distinct (alone_in rows used next sound p row at) uses (ap (λ o. option_map (λ (r : Row). r.entry) o) at) refl in
      let after = taken_out f new.serial (full_name_of new.entry) used p new.entry sound.distinct (alone_in (set_value (nat_eq p) rows new) used next sound_renewed p new now) uses' (ap (λ o. option_map (λ (r : Row). r.entry) o) now) refl in
      let first = used_first (set_value (nat_eq p) rows new) used next sound_renewed p new now uses' in
      ap (λ n. cached_by f (promoted (nat_eq n) used)) (sym its) ∙ first
      ∙ ap (λ l. new.entry ∷ l) (sym after ∙ ap (λ n. cached_by f (remove_entry (nat_eq n) used)) its ∙ kept ∙ before ∙ ap (λ n. without n (cached_by g used)) (sym named))

pub held_renewed : (rows rows' : List Placed) (used used' : LruCache ℕ ℕ) (capacity next at : ℕ) (entry : CachedData) → IsHeld rows used capacity next → IsCachedData entry → at < length rows
    → ((d : Placed) → name_at (get_or rows at d) ≡ (full_name_of entry)) → Renews rows used at entry rows' used'
    → IsHeld rows' used' capacity next × (cached_in rows' used'.entries ≡ take capacity (entry ∷ without (full_name_of entry) (cached_in rows used.entries)))
held_renewed rows rows' used used' capacity next at entry h data' lt named renews =
    let stand = stands_at rows at lt in
    let r = stand.0 in
    let is = stand.1 r in
    let uses = uses_at rows used.entries next at r h.sound lt is in
    let found = found_at rows at r h.sound.valid lt is in
    let new : Row = record { entry = entry; serial = r.1.serial } in
    let rows_is : rows' ≡ set_value (nat_eq r.0) rows new = renews.rows_are r ∙ ap (λ (x : Placed). set_value (nat_eq x.0) rows (record { entry = entry; serial = x.1.serial })) is in
    let used_is : used' ≡ lru_cache (promoted (nat_eq r.1.serial) used.entries) used.cap = renews.uses r ∙ ap (λ (x : Placed). lru_cache (promoted (nat_eq x.1.serial) used.entries) used.cap) is in
    let same : (full_name_of entry) ≡ (full_name_of r.1.entry) = sym (named r) ∙ ap name_at is in
    let valid = subst IsValidRows rows_is renews.valid in
    let sound = sound_renewed rows used.entries next r.0 r.1 new h.sound found uses refl same valid data' in
    let now = (lookup_valued r.0 r.0 new r.1 rows found).0 refl in
    let after = sound_used (set_value (nat_eq r.0) rows new) used.entries next sound r.0 new now uses in
    let count : length (promoted (nat_eq r.1.serial) used.entries) ≡ length used.entries =
    ap length (promoted_to rows used.entries next h.sound r.0 r.1 found uses) ∙ length_front r.1.serial r.0 used.entries uses in
    let fits = h.within in
    let cached = cached_renewed rows used.entries next r.0 r.1 new h.sound found uses refl same valid data' in
    let short : length (entry ∷ without (full_name_of entry) (cached_in rows used.entries)) ≤ capacity =
    omega (arith, ap length cached, length_cached (held_in (set_value (nat_eq r.0) rows new)) (promoted (nat_eq r.1.serial) used.entries)) in (
      record {
        sound = subst (λ (rs : List Placed). Sound rs used'.entries next) (sym rows_is) (subst (λ (u : LruCache ℕ ℕ). Sound (set_value (nat_eq r.0) rows new) u.entries next) (sym used_is) after);
        cap = ap (λ (u : LruCache ℕ ℕ). u.cap) used_is ∙ h.cap;
        within = omega (arith, ap (λ (u : LruCache ℕ ℕ). length u.entries) used_is, count);
        low = h.low;
        high = h.high;
      },
      (λ i. cached_in (rows_is i) (used_is i).entries) ∙ cached ∙ sym (take_all capacity _ short),
    )

sound_none : (next : ℕ) → Sound [] [] next
sound_none next = record {
  valid = record { rising = λ i j d a b. absurd (omega arith); distinct = IsDistinct-from_apart nat_eq [] (λ i j d a b. absurd (omega arith)) };
  distinct = IsDistinct-from_apart nat_eq [] (λ i j d a b. absurd (omega arith));
  there = tt;
  back = tt;
  below = tt;
  long = refl;
  each_data = tt;
}

pub none_cached : cached_in [] [] ≡ []
unfolding cached_by
none_cached = refl

-- if a store is emptied, its fields are valid (`IsHeld`), and nothing is cached
pub held_none : (rows rows' : List Placed) (used used' : LruCache ℕ ℕ) (capacity next : ℕ) → IsHeld rows used capacity next → rows' ≡ [] → used' ≡ lru_cache [] used.cap
    → IsHeld rows' used' capacity 0 × (cached_in rows' used'.entries ≡ [])
held_none rows rows' used used' capacity next h r u = (
  subst (λ (rs : List Placed). IsHeld rs used' capacity 0) (sym r) (subst (λ (us : LruCache ℕ ℕ). IsHeld [] us capacity 0) (sym u)
      (record { sound = sound_none 0; cap = h.cap; within = omega arith; low = h.low; high = h.high })),
  (λ i. cached_in (r i) (u i).entries) ∙ none_cached,
)

pub held_new : (rows : List Placed) (used : LruCache ℕ ℕ) (capacity next : ℕ) → rows ≡ [] → used ≡ lru_cache [] capacity → 1 ≤ capacity → capacity ≤ 65536
    → IsHeld rows used capacity next × (cached_in rows used.entries ≡ [])
held_new rows used capacity next r u low high = (
  subst (λ (rs : List Placed). IsHeld rs used capacity next) (sym r) (subst (λ (us : LruCache ℕ ℕ). IsHeld [] us capacity next) (sym u)
      (record { sound = sound_none next; cap = refl; within = omega arith; low = low; high = high })),
  (λ i. cached_in (r i) (u i).entries) ∙ none_cached,
)

-- If the Data of a cached full name is renewed (`r` is true), or nothing changes (`r` is false),
-- the fields of the store stay valid. After a renewal, the new Data is the most recently used.
pub held_same : (r : Bool) (rows rows' : List Placed) (used used' : LruCache ℕ ℕ) (capacity next at : ℕ) (entry : CachedData) → IsHeld rows used capacity next → IsCachedData entry → at < length rows
    → ((d : Placed) → name_at (get_or rows at d) ≡ full_name_of entry) → (r ≡ true → Renews rows used at entry rows' used') → (r ≡ false → (rows' ≡ rows) × (used' ≡ used))
    → IsHeld rows' used' capacity next × (r ≡ true → cached_in rows' used'.entries ≡ take capacity (entry ∷ without (full_name_of entry) (cached_in rows used.entries)))
    × (r ≡ false → seen rows' used' capacity ≡ seen rows used capacity)
held_same true rows rows' used used' capacity next at entry h data' lt named renews stays =
    let all = held_renewed rows rows' used used' capacity next at entry h data' lt named (renews refl) in
    (all.0, λ _. all.1, λ e. absurd cc)
held_same false rows rows' used used' capacity next at entry h data' lt named renews stays =
    let s = stays refl in (
      subst (λ (rs : List Placed). IsHeld rs used' capacity next) (sym s.0) (subst (λ (u : LruCache ℕ ℕ). IsHeld rows u capacity next) (sym s.1) h),
      λ e. absurd cc,
      λ _ i. seen (s.0 i) (s.1 i) capacity,
    )

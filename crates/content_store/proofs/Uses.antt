-- The effect of promotions and removals in the LRU order on the cached Data.
use Rattle.std.proofs.Common.{◌≡◌, ◌⊎◌, inl, inr, ℕ, suc, ◌<◌, Bool, true, false, cond, not, eqb, eqb-true, List, [], ◌∷◌, length, get_or, refl, sym, ap, subst, ◌∙◌, arith}
use borrow.Author.Tests.{eqb-false}
use Rattle.std.specs.Prelude.{Option, None, Some, nat_eq}
use Rattle.std.specs.Option.{option_map, option_map_or}
use Rattle.std.specs.List.{AllByRecursion, IsDistinct}
use Rattle.std.specs.Map.{keys_of, lookup, lookup_entry, remove_entry}
use Rattle.std.specs.Cmp.{Equal-is}
use Rattle.std.specs.Ordering.{eq_by_cmp}
use Rattle.std.specs.declared.cmp.Ordering.TheVariants.{Less, Equal}
use Rattle.std.proofs.lemmas.Cmp.{tied_itself}
use Rattle.std.proofs.lemmas.Option.{slice_get_within, get_or_from_slice_get}
use Rattle.std.proofs.lemmas.Map.Keys.{IsDistinct-head, IsDistinct-tail, IsDistinct-cons}
use Rattle.std.proofs.lemmas.Map.Entries.{place_from_lookup}
use Rattle.lru.specs.LruCache.{promoted}
use Rattle.ndn_tlv.specs.Element.{Field}
use Rattle.ndn_names.specs.Order.{name_cmp}
use Rattle.ndn_names.specs.Key.{name_cmp-total, name_cmp-antisymmetric}
use Rattle.content_store.specs.declared.rows.Row.{Row}
use Rattle.content_store.specs.Store.{CachedData, full_name_of, without}
use Rattle.content_store.specs.Rows.{Placed, name_at, Rising}
use Rattle.content_store.specs.Uses.{with_held, cached_by, held_in, cached_in, LeadsTo, Sound}

-- ---- equality of names
pub is_same : (a b : List Field) → eq_by_cmp name_cmp a b ≡ true → a ≡ b
is_same a b e = name_cmp-antisymmetric a b ((Equal-is (name_cmp a b)).0 e)

pub tied : (a b : List Field) → a ≡ b → eq_by_cmp name_cmp a b ≡ true
tied a b e = (Equal-is (name_cmp a b)).1 (ap (λ (x : List Field). name_cmp x b) e ∙ tied_itself name_cmp-total b)

pub differ : (a b : List Field) → (a ≡ b → ⊥) → eq_by_cmp name_cmp a b ≡ false
differ a b never = split (eq_by_cmp name_cmp a b) refl
  where
    split : (r : Bool) → eq_by_cmp name_cmp a b ≡ r → eq_by_cmp name_cmp a b ≡ false
    split true e = absurd (never (is_same a b e))
    split false e = e

-- ---- lists with keys, and the removal of a key
pub all_map : {X : Type 0} (P Q : X → Type 0) → ((x : X) → P x → Q x) → (xs : List X) → AllByRecursion P xs → AllByRecursion Q xs
all_map P Q f [] h = tt
all_map P Q f (x ∷ xs) h = (f x h.0, all_map P Q f xs h.1)

pub all_removed : {X : Type 0} (P : ℕ × X → Type 0) (s : ℕ) (us : List (ℕ × X)) → AllByRecursion P us → AllByRecursion P (remove_entry (nat_eq s) us)
all_removed P s [] h = tt
all_removed P s (u ∷ us) h = split (eqb s u.0) (all_removed P s us h.1)
  where
    split : (b : Bool) → AllByRecursion P (remove_entry (nat_eq s) us) → AllByRecursion P (cond b us (u ∷ remove_entry (nat_eq s) us))
    split true rest = h.1
    split false rest = (h.0, rest)

pub all_found : {X : Type 0} (P : ℕ × X → Type 0) (s : ℕ) (p : X) (us : List (ℕ × X)) → AllByRecursion P us → lookup (nat_eq s) us ≡ Some p → P (s, p)
all_found P s p [] h e = absurd cc
all_found P s p (u ∷ us) h e = split (eqb s u.0) refl e (all_found P s p us h.1)
  where
    split : (b : Bool) → eqb s u.0 ≡ b → cond b (Some u.1) (lookup (nat_eq s) us) ≡ Some p → (lookup (nat_eq s) us ≡ Some p → P (s, p)) → P (s, p)
    split true t f again =
        let same : u.0 ≡ s = sym (eqb-true s u.0 t) in
        let value : u.1 ≡ p = cc in
        subst P (λ i. (same i, value i)) h.0
    split false t f again = again f

pub entry_of : {X : Type 0} (s : ℕ) (p : X) (us : List (ℕ × X)) → lookup (nat_eq s) us ≡ Some p → lookup_entry (nat_eq s) us ≡ Some (s, p)
entry_of s p [] e = absurd cc
entry_of s p (u ∷ us) e = split (eqb s u.0) refl e (entry_of s p us)
  where
    split : (b : Bool) → eqb s u.0 ≡ b → cond b (Some u.1) (lookup (nat_eq s) us) ≡ Some p → (lookup (nat_eq s) us ≡ Some p → lookup_entry (nat_eq s) us ≡ Some (s, p)) → cond b (Some u) (lookup_entry (nat_eq s) us) ≡ Some (s, p)
    split true t f again =
        let same : u.0 ≡ s = sym (eqb-true s u.0 t) in
        let value : u.1 ≡ p = cc in
        λ i. Some (same i, value i)
    split false t f again = again f

-- removing a key changes no lookup of another key
pub lookup_other : {X : Type 0} (s t : ℕ) (us : List (ℕ × X)) → eqb t s ≡ false → lookup (nat_eq t) (remove_entry (nat_eq s) us) ≡ lookup (nat_eq t) us
lookup_other s t [] ne = refl
lookup_other s t (u ∷ us) ne = split (eqb s u.0) refl (lookup_other s t us ne)
  where
    split : (b : Bool) → eqb s u.0 ≡ b → lookup (nat_eq t) (remove_entry (nat_eq s) us) ≡ lookup (nat_eq t) us → lookup (nat_eq t) (cond b us (u ∷ remove_entry (nat_eq s) us)) ≡ cond (eqb t u.0) (Some u.1) (lookup (nat_eq t) us)
    split true e rest =
        let other : eqb t u.0 ≡ false = ap (λ n. eqb t n) (sym (eqb-true s u.0 e)) ∙ ne in
        sym (ap (λ b. cond b (Some u.1) (lookup (nat_eq t) us)) other)
    split false e rest = ap (λ o. cond (eqb t u.0) (Some u.1) o) rest

-- if the keys are distinct, the keys that remain after a key is removed differ from this key
pub others_left : {X : Type 0} (s : ℕ) (us : List (ℕ × X)) → IsDistinct nat_eq (keys_of us) → AllByRecursion (λ t. nat_eq s t ≡ false) (keys_of (remove_entry (nat_eq s) us))
others_left s [] h = tt
others_left s (u ∷ us) h = split (eqb s u.0) refl (others_left s us (IsDistinct-tail nat_eq u.0 (keys_of us) h))
  where
    split : (b : Bool) → eqb s u.0 ≡ b → AllByRecursion (λ t. nat_eq s t ≡ false) (keys_of (remove_entry (nat_eq s) us)) → AllByRecursion (λ t. nat_eq s t ≡ false) (keys_of (cond b us (u ∷ remove_entry (nat_eq s) us)))
    split true e rest = subst (λ (n : ℕ). AllByRecursion (λ t. nat_eq n t ≡ false) (keys_of us)) (sym (eqb-true s u.0 e)) (IsDistinct-head nat_eq u.0 (keys_of us) h)
    split false e rest = (e, rest)

keys_removed : {X : Type 0} (P : ℕ → Type 0) (s : ℕ) (us : List (ℕ × X)) → AllByRecursion P (keys_of us) → AllByRecursion P (keys_of (remove_entry (nat_eq s) us))
keys_removed P s [] h = tt
keys_removed P s (u ∷ us) h = split (eqb s u.0) (keys_removed P s us h.1)
  where
    split : (b : Bool) → AllByRecursion P (keys_of (remove_entry (nat_eq s) us)) → AllByRecursion P (keys_of (cond b us (u ∷ remove_entry (nat_eq s) us)))
    split true rest = h.1
    split false rest = (h.0, rest)

pub distinct_removed : {X : Type 0} (s : ℕ) (us : List (ℕ × X)) → IsDistinct nat_eq (keys_of us) → IsDistinct nat_eq (keys_of (remove_entry (nat_eq s) us))
distinct_removed s [] h = h
distinct_removed s (u ∷ us) h = split (eqb s u.0) (distinct_removed s us (IsDistinct-tail nat_eq u.0 (keys_of us) h))
  where
    split : (b : Bool) → IsDistinct nat_eq (keys_of (remove_entry (nat_eq s) us)) → IsDistinct nat_eq (keys_of (cond b us (u ∷ remove_entry (nat_eq s) us)))
    split true rest = IsDistinct-tail nat_eq u.0 (keys_of us) h
    split false rest =
        IsDistinct-cons nat_eq u.0 (keys_of (remove_entry (nat_eq s) us)) (keys_removed (λ t. nat_eq u.0 t ≡ false) s us (IsDistinct-head nat_eq u.0 (keys_of us) h)) rest

pub length_front : {X : Type 0} (s : ℕ) (p : X) (us : List (ℕ × X)) → lookup (nat_eq s) us ≡ Some p → suc (length (remove_entry (nat_eq s) us)) ≡ length us
length_front s p [] e = absurd cc
length_front s p (u ∷ us) e = split (eqb s u.0) e (length_front s p us)
  where
    split : (b : Bool) → cond b (Some u.1) (lookup (nat_eq s) us) ≡ Some p → (lookup (nat_eq s) us ≡ Some p → suc (length (remove_entry (nat_eq s) us)) ≡ length us)
        → suc (length (cond b us (u ∷ remove_entry (nat_eq s) us))) ≡ suc (length us)
    split true f again = refl
    split false f again = ap (λ n. suc n) (again f)

-- ---- the removal of one element from the LRU order
module _ (g : ℕ → Option CachedData) (s : ℕ) (name : List Field) where
  -- `u` is a pair of a serial number and a slab index: if the Data at this slab index has the full
  -- name `name`, the serial number is `s`
  abbrev pub Alone : ℕ × ℕ → Type 0
  Alone u = (d : CachedData) → g u.1 ≡ Some d → (full_name_of d) ≡ name → u.0 ≡ s

  with_other : (o : Option CachedData) (rest : List CachedData) → ((d : CachedData) → o ≡ Some d → (full_name_of d) ≡ name → ⊥) → without name (with_held o rest) ≡ with_held o (without name rest)
  with_other None rest never = refl
  with_other (Some d) rest never = ap (λ b. cond (not b) (d ∷ without name rest) (without name rest)) (differ (full_name_of d) name (never d refl))

  none_left : (us : List (ℕ × ℕ)) → AllByRecursion Alone us → AllByRecursion (λ t. nat_eq s t ≡ false) (keys_of us) → without name (cached_by g us) ≡ cached_by g us
  unfolding cached_by
  none_left [] h k = refl
  none_left (u ∷ us) h k =
      let other = k.0 in
      with_other (g u.1) (cached_by g us) (λ d at same. (let e = eqb-false s u.0 other (sym (h.0 d at same)) in e))
      ∙ ap (λ t. with_held (g u.1) t) (none_left us h.1 k.1)

  pub taken_out : (us : List (ℕ × ℕ)) (p : ℕ) (c : CachedData) → IsDistinct nat_eq (keys_of us) → AllByRecursion Alone us → lookup (nat_eq s) us ≡ Some p → g p ≡ Some c → (full_name_of c) ≡ name
      → cached_by g (remove_entry (nat_eq s) us) ≡ without name (cached_by g us)
  unfolding cached_by
  taken_out [] p c distinct alone found at named = absurd cc
  taken_out (u ∷ us) p c distinct alone found at named =
      split (eqb s u.0) refl found (λ f. taken_out us p c (IsDistinct-tail nat_eq u.0 (keys_of us) distinct) alone.1 f at named) (none_left us alone.1)
    where
      split : (b : Bool) → eqb s u.0 ≡ b → cond b (Some u.1) (lookup (nat_eq s) us) ≡ Some p
          → (lookup (nat_eq s) us ≡ Some p → cached_by g (remove_entry (nat_eq s) us) ≡ without name (cached_by g us))
          → (AllByRecursion (λ t. nat_eq s t ≡ false) (keys_of us) → without name (cached_by g us) ≡ cached_by g us)
          → cached_by g (cond b us (u ∷ remove_entry (nat_eq s) us)) ≡ without name (with_held (g u.1) (cached_by g us))
      split true t f again none =
          let value : u.1 ≡ p = cc in
          let here : g u.1 ≡ Some c = ap g value ∙ at in
          let apart = subst (λ (n : ℕ). AllByRecursion (λ k. nat_eq n k ≡ false) (keys_of us)) (sym (eqb-true s u.0 t)) (IsDistinct-head nat_eq u.0 (keys_of us) distinct) in
          sym (ap (λ o. without name (with_held o (cached_by g us))) here
          ∙ ap (λ b. cond (not b) (c ∷ without name (cached_by g us)) (without name (cached_by g us))) (tied (full_name_of c) name named)
          ∙ none apart)
      split false t f again none =
          ap (λ l. with_held (g u.1) l) (again f)
          ∙ sym (with_other (g u.1) (cached_by g us) (λ d here same. (let e = eqb-false s u.0 t (sym (alone.0 d here same)) in e)))

-- ---- rows and their full names
pub one_row : (rows : List Placed) → Rising rows → (p q : ℕ) (a b : Row) → lookup (nat_eq p) rows ≡ Some a → lookup (nat_eq q) rows ≡ Some b → (full_name_of a.entry) ≡ (full_name_of b.entry) → a ≡ b
one_row rows rising p q a b pa qb same =
    let i = place_from_lookup (nat_eq p) rows a pa in
    let j = place_from_lookup (nat_eq q) rows b qb in
    let ri : (d : Placed) → get_or rows i.0 d ≡ (i.1, a) = λ d. get_or_from_slice_get rows i.0 (i.1, a) d i.2 in
    let rj : (d : Placed) → get_or rows j.0 d ≡ (j.1, b) = λ d. get_or_from_slice_get rows j.0 (j.1, b) d j.2 in
    let wi = slice_get_within rows i.0 (i.1, a) i.2 in
    let wj = slice_get_within rows j.0 (j.1, b) j.2 in
    let tie : name_cmp (full_name_of a.entry) (full_name_of b.entry) ≡ Equal = ap (λ n. name_cmp n (full_name_of b.entry)) same ∙ tied_itself name_cmp-total (full_name_of b.entry) in
    let tie' : name_cmp (full_name_of b.entry) (full_name_of a.entry) ≡ Equal = ap (λ n. name_cmp n (full_name_of a.entry)) (sym same) ∙ tied_itself name_cmp-total (full_name_of a.entry) in
    elim (order_of i.0 j.0) [
      | inl lt ↦
          let less : name_cmp (full_name_of a.entry) (full_name_of b.entry) ≡ Less = sym (λ k. name_cmp (name_at (ri (i.1, a) k)) (name_at (rj (i.1, a) k))) ∙ rising i.0 j.0 (i.1, a) lt wj in
          absurd cc
      | inr (inl e) ↦ let both : (i.1, a) ≡ (j.1, b) = sym (ri (i.1, a)) ∙ ap (λ n. get_or rows n (i.1, a)) e ∙ rj (i.1, a) in ap (λ (r : Placed). r.1) both
      | inr (inr gt) ↦
          let less : name_cmp (full_name_of b.entry) (full_name_of a.entry) ≡ Less = sym (λ k. name_cmp (name_at (rj (i.1, a) k)) (name_at (ri (i.1, a) k))) ∙ rising j.0 i.0 (i.1, a) gt wi in
          absurd cc
    ]
  where
    order_of : (m n : ℕ) → (m < n) ⊎ ((m ≡ n) ⊎ (n < m))
    order_of m n = grind arith

pub held_at_is : (o : Option Row) (row : Row) (d : CachedData) → o ≡ Some row → option_map (λ (r : Row). r.entry) o ≡ Some d → d ≡ row.entry
held_at_is o row d is at = (let e = sym (ap (λ x. option_map (λ (r : Row). r.entry) x) is) ∙ at in cc)

-- if the Data at the slab index of a serial number in `used` has the full name of `row`, this
-- serial number is the serial number of `row`
pub alone_in : (rows : List Placed) (used : List (ℕ × ℕ)) (next : ℕ) → Sound rows used next → (p : ℕ) (row : Row) → lookup (nat_eq p) rows ≡ Some row
    → AllByRecursion (Alone (held_in rows) row.serial (full_name_of row.entry)) used
alone_in rows used next sound p row at =
    all_map (LeadsTo rows) (Alone (held_in rows) row.serial (full_name_of row.entry))
    (λ u leads d there same.
    let is = held_at_is (lookup (nat_eq u.1) rows) leads.row d leads.there there in
    let one = one_row rows sound.valid.rising u.1 p leads.row row leads.there at (ap full_name_of (sym is) ∙ same) in
    sym leads.its ∙ ap (λ (r : Row). r.serial) one) used sound.there

module _ (rows : List Placed) (used : List (ℕ × ℕ)) (next : ℕ) (sound : Sound rows used next) (p : ℕ) (row : Row) (at : lookup (nat_eq p) rows ≡ Some row) (uses : lookup (nat_eq row.serial) used ≡ Some p) where
  pub promoted_to : promoted (nat_eq row.serial) used ≡ (row.serial, p) ∷ remove_entry (nat_eq row.serial) used
  promoted_to = ap (λ o. option_map_or (λ (e : ℕ × ℕ). e ∷ remove_entry (nat_eq row.serial) used) o used) (entry_of row.serial p used uses)

  -- after a Data is used, this Data comes first in the LRU order, followed by the other Data in
  -- their old order
  pub used_first : cached_in rows (promoted (nat_eq row.serial) used) ≡ row.entry ∷ without (full_name_of row.entry) (cached_in rows used)
  unfolding cached_by
  used_first =
      ap (cached_in rows) promoted_to
      ∙ ap (λ o. with_held (option_map (λ (r : Row). r.entry) o) (cached_in rows (remove_entry (nat_eq row.serial) used))) at
      ∙ ap (λ l. row.entry ∷ l) (taken_out (held_in rows) row.serial (full_name_of row.entry) used p row.entry sound.distinct (alone_in rows used next sound p row at) uses
      (ap (λ o. option_map (λ (r : Row). r.entry) o) at) refl)

  lookup_front : (t : ℕ) → lookup (nat_eq t) ((row.serial, p) ∷ remove_entry (nat_eq row.serial) used) ≡ lookup (nat_eq t) used
  lookup_front t = split (eqb t row.serial) refl
    where
      split : (b : Bool) → eqb t row.serial ≡ b → cond b (Some p) (lookup (nat_eq t) (remove_entry (nat_eq row.serial) used)) ≡ lookup (nat_eq t) used
      split true e = sym (ap (λ n. lookup (nat_eq n) used) (eqb-true t row.serial e) ∙ uses)
      split false e = lookup_other row.serial t used e

  pub sound_used : Sound rows (promoted (nat_eq row.serial) used) next
  sound_used =
      subst (λ (us : List (ℕ × ℕ)). Sound rows us next) (sym promoted_to)
      (record {
        valid = sound.valid;
        distinct = IsDistinct-cons nat_eq row.serial _ (others_left row.serial used sound.distinct) (distinct_removed row.serial used sound.distinct);
        there = (all_found (LeadsTo rows) row.serial p used sound.there uses, all_removed (LeadsTo rows) row.serial used sound.there);
        back = all_map (λ r. lookup (nat_eq r.1.serial) used ≡ Some r.0) (λ r. lookup (nat_eq r.1.serial) ((row.serial, p) ∷ remove_entry (nat_eq row.serial) used) ≡ Some r.0)
            (λ r h. lookup_front r.1.serial ∙ h) rows sound.back;
        long = sound.long ∙ sym (length_front row.serial p used uses);
        each_data = sound.each_data;
        below = (all_found (λ u. u.0 < next) row.serial p used sound.below uses, all_removed (λ u. u.0 < next) row.serial used sound.below);
      })

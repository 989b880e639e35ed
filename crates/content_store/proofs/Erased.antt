-- The rows whose full names begin with a name are removed, one after another.
use Rattle.std.proofs.Common.{◌≡◌, ◌≢◌, ◌⊎◌, inl, inr, ℕ, zero, suc, ◌+◌, ◌-◌, ◌<◌, ◌≤◌, List, [], ◌∷◌, ◌++◌, length, get_or, take, drop, refl, sym, ap, subst, ◌∙◌, arith, All}
use Rattle.std.specs.Prelude.{IsSome, Option, Some, nat_eq}
use Rattle.std.specs.List.{remove}
use Rattle.std.specs.Map.{lookup, remove_entry}
use Rattle.std.proofs.lemmas.List.{length-append, length-take-le, length-drop, get_or-append_right, get_or-drop}
use Rattle.std.proofs.lemmas.List.Edits.{length-remove, get_or-remove_below, get_or-remove_above}
use Rattle.lru.specs.LruCache.{LruCache}
use Rattle.ndn_tlv.specs.Element.{Field}
use Rattle.ndn_names.specs.Name.{IsPrefix}
use Rattle.ndn_names.specs.Order.{name_cmp}
use Rattle.content_store.specs.declared.rows.Row.{Row}
use Rattle.content_store.specs.Store.{CachedData, IsLeast, TakesLeast, full_name_of, without}
use Rattle.content_store.specs.Rows.{Placed, IsLower, IsRows, IsValidRows, name_at, shown}
use Rattle.content_store.specs.Uses.{Sound, cached_in, without_range}
use Rattle.content_store.proofs.Shown.{all_there, length-shown, shown_at, valid_shown}
use Rattle.content_store.proofs.Under.{none_after, under_not_less}
use Rattle.content_store.proofs.Uses.{length_front}
use Rattle.content_store.proofs.Least.{first_is_least, found_at, none_serves}
use Rattle.content_store.proofs.Promotes.{uses_at}
use Rattle.content_store.proofs.Changes.{cached_fewer, length_held, sound_fewer}
use Rattle.content_store.proofs.Edits.{forgotten}
use Rattle.content_store.proofs.Taken.{one_taken}

-- The state of an erase after `gone` Data were removed. The removed Data had the least full names
-- that begin with `name`. The rows and the LRU order are sound (`Sound`).
pub record TakenSoFar (name : List Field) (rows : List Placed) (used : LruCache ℕ ℕ) (rows' : List Placed) (used' : LruCache ℕ ℕ) (next gone : ℕ) : Type 0 where
  pub sound : Sound rows' used'.entries next
  pub fewer : length used'.entries ≤ length used.entries
  pub taken : TakesLeast name (cached_in rows used.entries) (cached_in rows' used'.entries) gone

-- ---- removing a range of a list

pub range_one : {X : Type 0} (xs : List X) (s e : ℕ) → s ≤ e → e < length xs → remove (without_range s e xs) s ≡ without_range s (e + 1) xs
range_one [] s e le lt = absurd (omega arith)
range_one (x ∷ xs) zero zero le lt = refl
range_one (x ∷ xs) zero (suc e) le lt =
    let n : suc (e + 1) ≡ suc e + 1 = omega arith in
    range_one xs zero e (omega arith) (omega arith) ∙ ap (λ (m : ℕ). drop m (x ∷ xs)) n
range_one (x ∷ xs) (suc s) zero le lt = absurd (omega arith)
range_one (x ∷ xs) (suc s) (suc e) le lt =
    let n : suc (e + 1) ≡ suc e + 1 = omega arith in
    ap (λ t. x ∷ t) (range_one xs s e (omega arith) (omega arith)) ∙ ap (λ (m : ℕ). x ∷ (take s xs ++ drop m (x ∷ xs))) n

range_at : (xs : List ℕ) (s e : ℕ) → s ≤ e → e < length xs → get_or (without_range s e xs) s 0 ≡ get_or xs e 0
range_at xs s e le lt =
    let n : e + (s - s) ≡ e = omega arith in
    get_or-append_right (take s xs) (drop e xs) s s 0 (length-take-le s xs (omega arith)) (omega arith) ∙ get_or-drop e xs (s - s) 0 ∙ ap (λ (m : ℕ). get_or xs m 0) n

pub range_len : (xs : List ℕ) (s e : ℕ) → s ≤ e → e ≤ length xs → length (without_range s e xs) ≡ s + (length xs - e)
range_len xs s e le lt = omega (arith, length-append (take s xs) (drop e xs), length-take-le s xs (omega arith), length-drop e xs)

pub there_at : (h : ℕ → Option Row) (order : List ℕ) (start end : ℕ) → IsRows h (without_range start end order) → start ≤ end → end < length order → IsSome (h (get_or order end 0))
there_at h order start end rows le lt =
    subst (λ (p : ℕ). IsSome (h p)) (range_at order start end le lt)
    (all_there (λ p. IsSome (h p)) (without_range start end order) start rows.there (omega (arith, range_len order start end le (omega arith))))

-- ---- the rows that remain after an erase

below_or : (m n : ℕ) → (m < n) ⊎ (n ≤ m)
below_or m n = grind arith

lower_removed : (name : List Field) (rows : List Placed) (at : ℕ) → at < length rows → IsLower name rows at → IsLower name (remove rows at) at
lower_removed name rows at lt lower =
    let count = length-remove rows at lt in
    record {
      within = omega arith;
      below = λ k d before. ap (λ (r : Placed). name_cmp (name_at r) name) (get_or-remove_below rows at d k before lt) ∙ lower.below k d before;
      above = λ k d ge within less.
          lower.above (k + 1) d (omega arith) (omega arith) (ap (λ (r : Placed). name_cmp (name_at r) name) (sym (get_or-remove_above rows at d k ge lt)) ∙ less);
    }

-- if no row is at the position where a binary search for `name` ends, or if the full name of the
-- row there does not begin with `name`, then no cached full name begins with `name`
pub none_left : (name : List Field) (rows : List Placed) (used : List (ℕ × ℕ)) (next at : ℕ) → Sound rows used next → IsLower name rows at
    → ((d : Placed) → at < length rows → IsPrefix name (name_at (get_or rows at d)) → ⊥) → All (λ d. IsPrefix name (full_name_of d) → ⊥) (cached_in rows used)
none_left name rows used next at sound lower never =
    none_serves (λ d. IsPrefix name (full_name_of d)) rows used next sound
    (λ k d lt p. elim (below_or k at) [
      | inl before ↦ under_not_less name (name_at (get_or rows k d)) p (lower.below k d before)
      | inr after ↦ none_after name rows at sound.valid.rising (omega arith) (λ e. lower.above at e (omega arith) (omega arith)) (λ e. never e (omega arith)) k d after lt p
    ])

-- ---- the removal of one more row

module _ (h f : ℕ → Option Row) (order : List ℕ) (start end p : ℕ) (row : Row) (name : List Field)
    (rows : IsRows h (without_range start end order)) (lower : IsLower name (shown h (without_range start end order)) start)
    (le : start ≤ end) (lt : end < length order) (place : get_or order end 0 ≡ p) (at : h p ≡ Some row) (others : (q : ℕ) → q ≢ p → f q ≡ h q) where
  within : start < length (without_range start end order)
  within = omega (arith, range_len order start end le (omega arith))

  stands : get_or (without_range start end order) start 0 ≡ p
  stands = range_at order start end le lt ∙ place

  step : (shown f (without_range start (end + 1) order) ≡ remove_entry (nat_eq p) (shown h (without_range start end order))) × IsRows f (without_range start (end + 1) order)
      × (shown f (without_range start (end + 1) order) ≡ remove (shown h (without_range start end order)) start)
  step = forgotten h f (without_range start end order) (without_range start (end + 1) order) start p rows within stands others (sym (range_one order start end le lt))

  within_rows : start < length (shown h (without_range start end order))
  within_rows = (let a = within in let len = length-shown h (without_range start end order) rows.there in omega arith)

  pub rows_next : IsRows f (without_range start (end + 1) order)
  rows_next = step.1

  pub lower_next : IsLower name (shown f (without_range start (end + 1) order)) start
  lower_next = subst (λ (rs : List Placed). IsLower name rs start) (sym step.2) (lower_removed name (shown h (without_range start end order)) start within_rows lower)

  pub left_next : (all : List Placed) → end < length all → shown h (without_range start end order) ≡ without_range start end all
      → shown f (without_range start (end + 1) order) ≡ without_range start (end + 1) all
  left_next all short left = step.2 ∙ ap (λ (rs : List Placed). remove rs start) left ∙ range_one all start end le short

  pub here : (d : Placed) → get_or (shown h (without_range start end order)) start d ≡ (p, row)
  here d = shown_at h (without_range start end order) start row rows.there within (ap h stands ∙ at) d ∙ (λ i. (stands i, row))

  module _ (used : List (ℕ × ℕ)) (next : ℕ) (sound : Sound (shown h (without_range start end order)) used next) where
    found : lookup (nat_eq p) (shown h (without_range start end order)) ≡ Some row
    found = found_at (shown h (without_range start end order)) start (p, row) sound.valid within_rows (here (p, row))

    uses : lookup (nat_eq row.serial) used ≡ Some p
    uses = uses_at (shown h (without_range start end order)) used next start (p, row) sound within_rows (here (p, row))

    valid : IsValidRows (remove_entry (nat_eq p) (shown h (without_range start end order)))
    valid = subst IsValidRows step.0 (valid_shown f (without_range start (end + 1) order) step.1)

    fewer_sound : Sound (remove_entry (nat_eq p) (shown h (without_range start end order))) (remove_entry (nat_eq row.serial) used) next
    fewer_sound = sound_fewer (shown h (without_range start end order)) used next row.serial p row sound uses found refl valid

    pub sound_next : Sound (shown f (without_range start (end + 1) order)) (remove_entry (nat_eq row.serial) used) next
    sound_next = subst (λ (rs : List Placed). Sound rs (remove_entry (nat_eq row.serial) used) next) (sym step.0) fewer_sound

    pub fewer_next : suc (length (remove_entry (nat_eq row.serial) used)) ≡ length used
    fewer_next = length_front row.serial p used uses

    pub taken_next : IsPrefix name (full_name_of row.entry) → (xs : List CachedData) (n : ℕ) → TakesLeast name xs (cached_in (shown h (without_range start end order)) used) n
        → TakesLeast name xs (cached_in (shown f (without_range start (end + 1) order)) (remove_entry (nat_eq row.serial) used)) (n + 1)
    taken_next under xs n taken =
        let all = shown h (without_range start end order) in
        let cached = cached_fewer all used next row.serial p row sound uses found refl valid in
        let least : IsLeast (λ d. IsPrefix name (full_name_of d)) (cached_in all used) row.entry =
        first_is_least (λ d. IsPrefix name (full_name_of d)) all used next sound start (p, row) (here (p, row)) (
          within_rows,
          λ d. subst (λ (r : Placed). IsPrefix name (name_at r)) (sym (here d)) under,
          λ k d before pre. under_not_less name (name_at (get_or all k d)) pre (lower.below k d before),
        ) in
        let count : length (without (full_name_of row.entry) (cached_in all used)) + 1 ≡ length (cached_in all used) =
        omega (arith, ap length cached, length_held (remove_entry (nat_eq p) all) (remove_entry (nat_eq row.serial) used) next fewer_sound, length_front p row all found, length_held all used next sound) in
        subst (λ (cs : List CachedData). TakesLeast name xs cs (n + 1)) (sym (ap (λ (rs : List Placed). cached_in rs (remove_entry (nat_eq row.serial) used)) step.0 ∙ cached))
        (one_taken name xs (cached_in all used) n row.entry taken least count)

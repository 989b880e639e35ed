-- The removal or renewal of one row of the list, as a `Change` of the list.
use Rattle.std.proofs.Common.{◌≡◌, ◌≢◌, ◌⊎◌, inl, inr, ℕ, ◌+◌, ◌<◌, ◌≤◌, List, length, get_or, sym, ap, subst, ◌∙◌, arith}
use Rattle.std.specs.Prelude.{Option, Some}
use Rattle.std.specs.List.{remove}
use Rattle.std.specs.declared.cmp.Ordering.TheVariants.{Less}
use Rattle.std.proofs.lemmas.Cmp.{tied_itself}
use Rattle.ndn_names.specs.Order.{name_cmp}
use Rattle.ndn_names.specs.Key.{name_cmp-total}
use Rattle.content_store.specs.Store.{full_name_of}
use Rattle.content_store.specs.declared.rows.Row.{Row}
use Rattle.content_store.specs.declared.blocks.Change.TheVariants.{Removed, Renewed}
use Rattle.content_store.specs.Rows.{IsRows, Placed, held_at, name_at, shown}
use Rattle.content_store.specs.Blocks.{Follows, fresh_until}
use Rattle.content_store.proofs.Shown.{all_there, length-shown, shown_at, some_is}
use Rattle.content_store.proofs.Erased.{range_one}
use Rattle.std.proofs.lemmas.List.{take-append-drop}
use Rattle.std.specs.Prelude.{IsSome}

-- removing the row at position `at` is the change `Removed at (at + 1)`
pub one_removed : (rows rows' : List Placed) (at : ℕ) → at < length rows → rows' ≡ remove rows at → Follows (Removed at (at + 1)) rows rows'
one_removed rows rows' at lt is = (
  omega arith,
  omega arith,
  is ∙ sym (ap (λ (rs : List Placed). remove rs at) (take-append-drop at rows)) ∙ range_one rows at at (omega arith) lt,
)

order_of : (m n : ℕ) → (m < n) ⊎ ((m ≡ n) ⊎ (n < m))
order_of m n = grind arith

-- if the row at position `at` is renewed, and is then fresh until `until` at the latest, the change
-- `Renewed at until` turns the old list into the new list (`Follows`)
pub one_renewed : (h f : ℕ → Option Row) (order : List ℕ) (at p until : ℕ) (row new : Row) → IsRows h order → IsRows f order → at < length order → get_or order at 0 ≡ p → h p ≡ Some row → f p ≡ Some new
    → ((q : ℕ) → q ≢ p → f q ≡ h q) → fresh_until new.entry ≤ until → Follows (Renewed at until) (shown h order) (shown f order)
one_renewed h f order at p until row new rows rows' lt place was is others le = (
  length-shown f order rows'.there ∙ sym (length-shown h order rows.there),
  λ d. subst (λ (x : Placed). fresh_until (held_at x) ≤ until) (sym (shown_at f order at new rows'.there lt (ap f place ∙ is) d)) le,
  λ k d ne within.
      let count = length-shown h order rows.there in
      let there : k < length order = omega arith in
      let r = some_is (h (get_or order k 0)) (all_there (λ q. IsSome (h q)) order k rows.there there) in
      let apart : get_or order k 0 ≢ p = λ same.
      let one : (e : Placed) → get_or (shown h order) k e ≡ (p, row) = λ e. shown_at h order k row rows.there there (ap h same ∙ was) e ∙ (λ i. (same i, row)) in
      let two : (e : Placed) → get_or (shown h order) at e ≡ (p, row) = λ e. shown_at h order at row rows.there lt (ap h place ∙ was) e ∙ (λ i. (place i, row)) in
      let tie = tied_itself name_cmp-total (full_name_of row.entry) in
      elim (order_of k at) [
        | inl before ↦
            let less : name_cmp (full_name_of row.entry) (full_name_of row.entry) ≡ Less = (λ i. name_cmp (name_at (sym (one d) i)) (name_at (sym (two d) i))) ∙ rows.rising k at d before (omega arith) in
            absurd cc
        | inr (inl same_at) ↦ ne same_at
        | inr (inr after) ↦
            let less : name_cmp (full_name_of row.entry) (full_name_of row.entry) ≡ Less = (λ i. name_cmp (name_at (sym (two d) i)) (name_at (sym (one d) i))) ∙ rows.rising at k d after within in
            absurd cc
      ] in
      shown_at f order k r.0 rows'.there there (others (get_or order k 0) apart ∙ r.1) d ∙ sym (shown_at h order k r.0 rows.there there r.1 d),
)

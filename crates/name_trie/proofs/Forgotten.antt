-- Removing a child's row from the rows of a node.
use Rattle.std.proofs.Common.{◌≡◌, ◌≢◌, ℕ, zero, suc, ◌<◌, true, false, cond, List, [], ◌∷◌, ◌++◌, length, get_or, take, drop, refl, sym, ap, ◌∙◌, arith}
use lib.Dec.{T}
use Rattle.std.specs.Prelude.{None, Some}
use Rattle.std.specs.List.{All}
use Rattle.std.specs.declared.cmp.Ordering.{Ordering}
use Rattle.std.specs.Ordering.{eq_by_cmp, is_eq}
use Rattle.std.specs.Cmp.{IsTotalOrder, tied_itself}
use Rattle.std.specs.FinMap.{IsAntisymmetric, find, is_sorted}
use Rattle.std.specs.FinMap.Entries.{below_all}
use Rattle.ndn_names.proofs.Rows.{first_of, second_of, find_found}
use Rattle.name_trie.specs.ByName.{with_entry, revised}
use Rattle.name_trie.specs.Links.{unless_is}
use Rattle.name_trie.proofs.Changed.{unless_is_self, unless_is_other}
use Rattle.name_trie.proofs.Halves.{lower_before, row_at}
use Rattle.name_trie.proofs.Revised.{equal, find_below}

-- if no row has the index `child`, removing the rows with this index changes nothing
pub others_stay : {K : Type 0} (child : ℕ) (rows : List (K × ℕ)) → All (λ row. row.1 ≢ child) rows → revised (unless_is child) rows ≡ rows
others_stay child [] all = refl
others_stay child (x ∷ rows) all =
    let rest = others_stay child rows (λ k d lt. all (suc k) d (omega arith)) in
    ap (λ o. with_entry x.0 o (revised (unless_is child) rows)) (unless_is_other child x.1 (all 0 x (omega arith))) ∙ ap (λ l. x ∷ l) rest

module _ {K : Type 0} {R : K → K → Ordering} (total : IsTotalOrder R) (anti : IsAntisymmetric R) (child : ℕ) where
  -- Let all keys of `rows` be greater than the key of the row `x`. If a lookup of the key `k` in
  -- `rows` finds `child`, a lookup of `k` in `x ∷ rows` finds `child` too.
  found_more : (x : K × ℕ) (rows : List (K × ℕ)) → T (below_all R x.0 rows) → (k : K) → find R k rows ≡ Some child → find R k (x ∷ rows) ≡ Some child
  found_more x rows below k found =
      elim (eq_by_cmp R k x.0) as (λ b. eq_by_cmp R k x.0 ≡ b → cond b (Some x.1) (find R k rows) ≡ Some child) [
        | true ↦ λ t.
            let one : k ≡ x.0 = anti k x.0 (equal _ t) in
            let none : find R k rows ≡ None = ap (λ q. find R q rows) one ∙ find_below R x.0 rows below in
            absurd cc
        | false ↦ λ t. found
      ] refl

  found_first : (x : K × ℕ) (rows : List (K × ℕ)) → find R x.0 (x ∷ rows) ≡ Some x.1
  found_first x rows = ap (λ o. cond (is_eq o) (Some x.1) (find R x.0 rows)) (tied_itself total x.0)

  -- if no lookup in sorted rows finds `child`, removing the rows with the index `child` changes
  -- nothing
  unchanged : (rows : List (K × ℕ)) → T (is_sorted R rows) → ((k : K) → find R k rows ≢ Some child) → revised (unless_is child) rows ≡ rows
  unchanged [] sorted none = refl
  unchanged (x ∷ rows) sorted none =
      let other : x.1 ≢ child = λ e. none x.0 (found_first x rows ∙ ap Some e) in
      let rest = unchanged rows (second_of _ _ sorted) (λ k e. none k (found_more x rows (first_of _ _ sorted) k e)) in
      ap (λ o. with_entry x.0 o (revised (unless_is child) rows)) (unless_is_other child x.1 other) ∙ ap (λ l. x ∷ l) rest

  -- lookups find `child` under at most one key
  abbrev IsOnce : List (K × ℕ) → Type 0
  IsOnce rows = (j k : K) → find R j rows ≡ Some child → find R k rows ≡ Some child → j ≡ k

  lost : (x : K × ℕ) (rows : List (K × ℕ)) → T (is_sorted R (x ∷ rows)) → IsOnce (x ∷ rows) → x.1 ≡ child → (k : K) → find R k rows ≢ Some child
  lost x rows sorted once is k found =
      let one : k ≡ x.0 = once k x.0 (found_more x rows (first_of _ _ sorted) k found) (found_first x rows ∙ ap Some is) in
      let none : find R k rows ≡ None = ap (λ q. find R q rows) one ∙ find_below R x.0 rows (first_of _ _ sorted) in
      absurd cc

  pub without_row : (rows : List (K × ℕ)) → T (is_sorted R rows) → IsOnce rows → (at : ℕ) → at < length rows → ((d : K × ℕ) → (get_or rows at d).1 ≡ child)
      → take at rows ++ drop (suc at) rows ≡ revised (unless_is child) rows
  without_row [] sorted once at lt is = absurd (omega arith)
  without_row (x ∷ rows) sorted once zero lt is =
      sym (ap (λ o. with_entry x.0 o (revised (unless_is child) rows)) (ap (unless_is child) (is x) ∙ unless_is_self child)
      ∙ unchanged rows (second_of _ _ sorted) (lost x rows sorted once (is x)))
  without_row (x ∷ rows) sorted once (suc at) lt is =
      let below : at < length rows = omega arith in
      let row = row_at rows at below in
      let tie = tied_itself total row.0.0 in
      let here : find R row.0.0 rows ≡ Some row.0.1 = find_found R row.0.0 rows at row.0 below row.1 (lower_before total row.0.0 rows at row.0 below row.1 (second_of _ _ sorted) tie) tie in
      let key : row.0.1 ≡ child = ap (λ (r : K × ℕ). r.1) row.1 ∙ is row.0 in
      let other : x.1 ≢ child = λ e. lost x rows sorted once e row.0.0 (here ∙ ap Some key) in
      let rest = without_row rows (second_of _ _ sorted) (λ j k e f. once j k (found_more x rows (first_of _ _ sorted) j e) (found_more x rows (first_of _ _ sorted) k f)) at below is in
      ap (λ l. x ∷ l) rest ∙ sym (ap (λ o. with_entry x.0 o (revised (unless_is child) rows)) (unless_is_other child x.1 other))

use Rattle.std.proofs.Common.{◌≡◌, ℕ, ◌+◌, ◌-◌, ◌<◌, ◌≤◌, true, false, length}
use Rattle.std.specs.List.{HoldsAt}
use Rattle.name_trie.specs.Hint.{is_before}
use Rattle.name_trie.proofs.children.start_of.Given as goal

abbrev pub invariant-loop-low : goal.invariant-loop-low
invariant-loop-low l =
    record {
      order : l.low ≤ l.high;
      within : l.high ≤ length l.rows;
      below : (k : ℕ) → k + 1 ≡ l.low → HoldsAt (λ row. is_before row.0 l.hint ≡ true) l.rows k;
      above : l.high < length l.rows → HoldsAt (λ row. is_before row.0 l.hint ≡ false) l.rows l.high;
    }

abbrev pub decreases-loop-low : goal.decreases-loop-low
decreases-loop-low l = l.high - l.low

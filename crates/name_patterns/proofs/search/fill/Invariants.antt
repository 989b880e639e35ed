use Rattle.std.proofs.Common.{◌≡◌, ℕ, ◌+◌, ◌*◌, ◌≤◌, length, map, drop}
use Rattle.std.specs.Prelude.{slice_get, IsSomeAnd}
use Rattle.ndn_names.specs.View.{components}
use Rattle.name_patterns.specs.Greedy.{AreSplit, IsRow}
use Rattle.name_patterns.specs.Shown.{atom_of}
use Rattle.name_patterns.proofs.search.fill.Given as goal

abbrev pub invariant-loop-i : goal.invariant-loop-i
invariant-loop-i l =
    AreSplit (drop l.i (map atom_of l.atoms)) (components l.fn.name) l.split
    × ((k : ℕ) → l.i ≤ k → k ≤ length l.atoms → IsSomeAnd (slice_get l.table k) (IsRow (drop k (map atom_of l.atoms)) (components l.fn.name)))
    × (length l.table ≡ 35)
    × (l.fn.first ≤ l.i)
    × (l.tests + 64 * l.i ≤ l.fn.tests + 64 * length l.atoms)
    × (l.tests + l.i * length (components l.fn.name) ≤ l.fn.tests + length l.atoms * length (components l.fn.name))
    × (l.fn.tests ≤ l.tests)

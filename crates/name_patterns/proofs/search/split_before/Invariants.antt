use Rattle.std.proofs.Common.{◌≡◌, ℕ}
use Rattle.name_patterns.specs.Greedy.{has_place}
use Rattle.name_patterns.proofs.Counts.{takes, takes_some}
use Rattle.name_patterns.proofs.search.split_before.Given as goal

abbrev pub invariant-loop-count : goal.invariant-loop-count
invariant-loop-count l =
    ((p : ℕ) → has_place l.begins p ≡ takes l.fn.passed l.fn.after p l.count)
    × ((p : ℕ) → has_place l.split p ≡ takes_some l.fn.passed l.fn.after p l.fn.repeat.least l.count)

use Rattle.std.proofs.Common.{◌≡◌, ◌+◌, ℕ, drop}
use Rattle.pit_fib.specs.RecordTally.{ArePositive, found, number}
use Rattle.pit_fib.proofs.record_tally.lower_each.Given as goal

abbrev pub invariant-loop-row : goal.invariant-loop-row
invariant-loop-row g l = record {
  positive : ArePositive l.faces;
  left : (f : ℕ) → number l.faces f + found l.rows f ≡ number l.fn.faces f + found (drop l.row-index l.rows) f;
}

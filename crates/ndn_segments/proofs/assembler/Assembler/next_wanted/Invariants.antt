use Rattle.std.proofs.Common.{ℕ, ◌+◌, ◌-◌, ◌≤◌, ◌<◌}
use Rattle.ndn_segments.specs.Assembling.{IsWanted}
use Rattle.ndn_segments.proofs.assembler.Assembler.next_wanted.Given as goal

-- no number before this one is wanted
abbrev pub invariant-loop-self : goal.invariant-loop-self
invariant-loop-self l = record {
  from : l.from ≤ l.number;
  next : l.self.next ≤ l.number;
  none : (m : ℕ) → l.from ≤ m → m < l.number → IsWanted l.self m → ⊥;
}

abbrev pub decreases-loop-self : goal.decreases-loop-self
decreases-loop-self l = l.self.next + l.self.window - l.number

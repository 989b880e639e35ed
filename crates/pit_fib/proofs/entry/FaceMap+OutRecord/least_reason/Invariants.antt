use Rattle.std.proofs.Common.{◌≡◌, drop}
use Rattle.pit_fib.specs.Pit.{least_reason}
use Rattle.pit_fib.proofs.entry.FaceMap+OutRecord.least_reason.Given as goal

abbrev pub invariant-loop-row : goal.invariant-loop-row
invariant-loop-row l = least_reason l.reason l.row-items ≡ least_reason l.least (drop l.row-index l.row-items)

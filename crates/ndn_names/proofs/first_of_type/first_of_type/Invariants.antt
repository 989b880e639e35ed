use Rattle.std.proofs.Common.{◌≤◌, length}
use Rattle.ndn_names.proofs.Findings.{IsFinding}
use Rattle.ndn_names.proofs.first_of_type.first_of_type.Given as goal

-- `count` components, at most 64, have been read, and the octets `rest` are still to be read.
-- `found` is the first component of type `kind` among these `count` components, or `None` if there
-- is none.
abbrev pub invariant-loop-rest : goal.invariant-loop-rest
invariant-loop-rest l = (l.count ≤ 64) × IsFinding l.kind l.count l.rest l.octets l.found

abbrev pub decreases-loop-rest : goal.decreases-loop-rest
decreases-loop-rest l = length l.rest

use Rattle.std.proofs.Common.{length}
use Rattle.scenarios.proofs.Differences.{BeginAlike}
use Rattle.scenarios.proofs.differ.first_difference.Given as goal

-- both texts begin with the same lines, which were passed
abbrev pub invariant-loop-left : goal.invariant-loop-left
invariant-loop-left l = BeginAlike l.fn.expected l.fn.found l.left l.right

abbrev pub decreases-loop-left : goal.decreases-loop-left
decreases-loop-left l = length l.left

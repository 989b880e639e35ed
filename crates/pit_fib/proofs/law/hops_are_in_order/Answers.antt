use Rattle.pit_fib.proofs.SortedHops.{hops_sorted, hops_same, hops_only}
use Rattle.pit_fib.proofs.law.hops_are_in_order.Goals as goal

pub returns-clause-sorted : goal.returns-clause-sorted
returns-clause-sorted c = hops_sorted

pub returns-clause-same : goal.returns-clause-same
returns-clause-same c = hops_same

pub returns-clause-only : goal.returns-clause-only
returns-clause-only c = hops_only

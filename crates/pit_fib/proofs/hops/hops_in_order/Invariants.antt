use Rattle.std.proofs.Common.{◌≡◌, ◌≤◌, length, take}
use Rattle.pit_fib.specs.Hops.{in_order}
use Rattle.pit_fib.proofs.hops.hops_in_order.Given as goal

abbrev pub invariant-loop-place : goal.invariant-loop-place
invariant-loop-place l = (l.hops ≡ in_order (take l.place-index l.costs)) × (length l.hops ≤ l.place-index)

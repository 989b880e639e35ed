use Rattle.std.proofs.Common.{take}
use Rattle.ndn_names.proofs.Rows.{AllLower}
use Rattle.pit_fib.specs.Route.{route_cmp}
use Rattle.pit_fib.proofs.registered.place_of.Given as goal

abbrev pub invariant-loop-at : goal.invariant-loop-at
invariant-loop-at l = AllLower route_cmp l.key (take l.at l.rows)

use Rattle.std.proofs.Common.{take}
use Rattle.std.specs.Ordering.{nat_cmp}
use Rattle.ndn_names.proofs.Rows.{AllLower}
use Rattle.pit_fib.proofs.by_face.place_of.Given as goal

abbrev pub invariant-loop-at : goal.invariant-loop-at
invariant-loop-at g l = AllLower nat_cmp l.face (take l.at l.places)

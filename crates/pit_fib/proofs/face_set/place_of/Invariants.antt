use Rattle.std.proofs.Common.{take}
use Rattle.pit_fib.proofs.RisingFaces.{AllBelow}
use Rattle.pit_fib.proofs.face_set.place_of.Given as goal

abbrev pub invariant-loop-at : goal.invariant-loop-at
invariant-loop-at l = AllBelow l.face (take l.at l.faces)

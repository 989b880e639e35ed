use Rattle.std.proofs.Common.{◌≡◌, drop}
use Rattle.pit_fib.specs.Kept.{with_faces_of}
use Rattle.pit_fib.proofs.entry.add_faces_of.Given as goal

abbrev pub invariant-loop-row : goal.invariant-loop-row
invariant-loop-row l = with_faces_of (drop l.row-index l.rows) l.faces ≡ with_faces_of l.rows l.fn.faces

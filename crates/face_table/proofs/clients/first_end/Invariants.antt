use Rattle.face_table.proofs.Silent.{EndAfter}
use Rattle.face_table.proofs.clients.first_end.Given as goal

abbrev pub invariant-loop-place : goal.invariant-loop-place
invariant-loop-place l = EndAfter l.clients l.time l.place l.first

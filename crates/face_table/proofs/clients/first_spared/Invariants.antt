use Rattle.face_table.proofs.Spared.{IsFound, IsSparedAt}
use Rattle.face_table.proofs.clients.first_spared.Given as goal

abbrev pub invariant-loop-place : goal.invariant-loop-place
invariant-loop-place l = IsFound (IsSparedAt l.now l.clients l.told) l.clients l.place l.first

use Rattle.face_table.proofs.Silent.{IsLongestOf}
use Rattle.face_table.proofs.clients.silent_longest.Given as goal

abbrev pub invariant-loop-place : goal.invariant-loop-place
invariant-loop-place l = IsLongestOf l.clients l.place l.longest

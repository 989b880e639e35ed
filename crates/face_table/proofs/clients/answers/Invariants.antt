use Rattle.face_table.proofs.Spared.{HaveAnswered}
use Rattle.face_table.proofs.clients.answers.Given as goal

abbrev pub invariant-loop-place : goal.invariant-loop-place
invariant-loop-place g l = HaveAnswered (g.H.Holdings.Answers l.holdings) l.clients l.told.items l.place

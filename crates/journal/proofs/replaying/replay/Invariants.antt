use Rattle.journal.proofs.Replays.{SoFar}
use Rattle.journal.proofs.replaying.replay.Given as goal

abbrev pub invariant-loop-before : goal.invariant-loop-before
invariant-loop-before g l =
    SoFar l.initial.node l.node (g.R.Read.remaining l.initial.reader) (g.R.Read.remaining l.reader) l.before l.replayed.events l.replayed.whole

use Rattle.journal.proofs.LastFiles.{ReadSoFar}
use Rattle.journal.proofs.last_files.last_rules.Given as goal

abbrev pub invariant-loop-before : goal.invariant-loop-before
invariant-loop-before g l =
    ReadSoFar (λ files. files.items) (g.R.Read.remaining l.initial.reader) (g.R.Read.remaining l.reader) l.last

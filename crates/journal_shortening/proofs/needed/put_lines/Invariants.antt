use Rattle.journal_shortening.proofs.Keeping.{SoFar}
use Rattle.journal_shortening.proofs.needed.put_lines.Given as goal

abbrev pub invariant-loop-is_needed : goal.invariant-loop-is_needed
invariant-loop-is_needed l =
    SoFar l.needed l.initial.journal l.initial.text.items l.is_needed-index l.rest l.text.items

use Rattle.info_rules.specs.Shown.{signed_of}
use Rattle.info_rules.proofs.Reasons.{SoFar}
use Rattle.info_rules.proofs.decision.greatest.Given as goal

abbrev pub invariant-loop-checker : goal.invariant-loop-checker
invariant-loop-checker l = SoFar l.keys l.checkers (signed_of l.signed) l.checker-index l.against

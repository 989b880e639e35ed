use Rattle.info_rules.proofs.OneDecision.{one_decision}
use Rattle.info_rules.proofs.decision.decisions_are_unique.Goals as goal

pub returns : goal.returns
returns c = λ rules keys packet a b apart p q. one_decision rules keys packet a b apart p q

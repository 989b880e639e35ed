use Rattle.info_rules.proofs.SomeDecision.{some_decision}
use Rattle.info_rules.proofs.decision.no_packet_is_undecided.Goals as goal

pub returns : goal.returns
returns c = λ rules keys packet is none. some_decision rules keys packet is none

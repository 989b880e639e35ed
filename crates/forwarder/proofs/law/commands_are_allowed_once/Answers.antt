use Rattle.forwarder.proofs.Once.{never_again, newer, newest_is_fresh}
use Rattle.forwarder.proofs.law.commands_are_allowed_once.Goals as goal

pub returns-clause-newer : goal.returns-clause-newer
returns-clause-newer c = λ first was past event whole other i j r s apart allowed h allows is also same.
    newer first was past event whole other i j r s apart allowed h allows is also same

pub returns-clause-once : goal.returns-clause-once
returns-clause-once c = λ first was past event whole other i j apart allowed h allows same. never_again first was past event whole other i j apart allowed h allows same

pub returns-clause-fresh : goal.returns-clause-fresh
returns-clause-fresh c = λ first was past now i r none h is near newest. newest_is_fresh first was past now i r none h is near newest

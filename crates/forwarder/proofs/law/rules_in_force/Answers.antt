use Rattle.forwarder.proofs.LaterMoments.{first_rules, last_rules, none_or_last}
use Rattle.forwarder.proofs.law.rules_in_force.Goals as goal

pub returns-clause-last : goal.returns-clause-last
returns-clause-last c = λ first p past rules keys is last. last_rules first p past rules keys is last

pub returns-clause-first : goal.returns-clause-first
returns-clause-first c = λ first p past is none. first_rules first p past is none

pub returns-clause-either : goal.returns-clause-either
returns-clause-either c = λ past. none_or_last past

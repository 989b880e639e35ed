use Rattle.std.specs.Prelude.{nat_le}
use Rattle.std.specs.FinMap as map
use Rattle.pit_fib.specs.declared.pit.TheConstants.{MAX_PENDING}
use Rattle.pit_fib.specs.Records.{records_at}
use Rattle.forwarder.specs.Event.{moment}
use Rattle.forwarder.specs.Policy.{at_moment}
use Rattle.forwarder.specs.Runs.{MayCache}
use Rattle.forwarder.proofs.Named.{denial_named, no_rule_named}
use Rattle.forwarder.proofs.law.denials_name_their_rule.Goals as goal

pub returns-clause-denied : goal.returns-clause-denied
returns-clause-denied c = λ first past event answer kind rule reason reply v.
    let q = at_moment reply.was (moment event) in
    denial_named q (records_at reply.waiting) (nat_le MAX_PENDING (map.len reply.waiting)) (MayCache past q.now) answer event kind rule reason reply.replies v

pub returns-clause-no_rule : goal.returns-clause-no_rule
returns-clause-no_rule c = λ first past event answer kind reply v.
    let q = at_moment reply.was (moment event) in
    no_rule_named q (records_at reply.waiting) (nat_le MAX_PENDING (map.len reply.waiting)) (MayCache past q.now) answer event kind reply.replies v

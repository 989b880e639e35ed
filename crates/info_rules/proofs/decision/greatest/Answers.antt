use Rattle.info_rules.specs.Shown.{signed_of}
use Rattle.info_rules.proofs.Reasons.{one_more, all_done}
use Rattle.info_rules.proofs.decision.greatest.Goals as goal

pub loop-checker-preserved : goal.loop-checker-preserved
loop-checker-preserved c =
    let given = rw c.in-Some.is at c.in_ok-reason.ensures in
    one_more c.args.keys.now c.args.checkers.now (signed_of c.args.signed.now) c.loop-checker.checker-index c.checker-item.result c.loop-checker.against c.in-Some.reason c.greater.result
    c.loop-checker-test.true c.checker-item.is given c.greater.ensures c.loop-checker.invariant

pub returns : goal.returns
returns c =
    rw c.unwrap_or.ensures
    (all_done c.args.keys.now c.args.checkers.now (signed_of c.args.signed.now) c.loop-checker.checker-index c.loop-checker.against c.loop-checker-test.false c.loop-checker.auto.checker-index-end
    c.loop-checker.invariant)

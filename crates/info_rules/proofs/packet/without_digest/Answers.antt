use Rattle.std.proofs.Common.{arith}
use Rattle.std.proofs.lemmas.Grind.{common_steps}
use Rattle.info_rules.proofs.Undigested.{last_is}
use Rattle.info_rules.proofs.packet.without_digest.Goals as goal

pub loop-component-preserved : goal.loop-component-preserved
loop-component-preserved c =
    let last = last_is c.loop-component.count c.loop-component.yielded c.in-Some.component c.loop-component.invariant.1 in
    (grind (arith, common_steps), grind (arith, common_steps), last)

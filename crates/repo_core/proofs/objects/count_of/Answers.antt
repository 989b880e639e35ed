use Rattle.std.proofs.Common.{length, ap, sym, ◌∙◌}
use Rattle.ndn_names.specs.View.{components}
use Rattle.repo_core.proofs.Near.{ended}
use Rattle.repo_core.proofs.objects.count_of.Goals as goal

pub returns-then-not-is_near : goal.returns-then-not-is_near
returns-then-not-is_near c =
    c.loop-object.invariant.1
    ∙ sym (ap length (ended (components c.args.name) c.args.can_be_prefix c.args.objects.now c.loop-object.object-index c.object-item.result c.requires c.loop-object-test.true c.object-item.is (sym c.is_near.ensures ∙ c.if-not-is_near.true)))

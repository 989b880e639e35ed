use Rattle.std.proofs.Common.{ap}
use Rattle.replay_guard.specs.Guard.{GuardState, signer_of}
use Rattle.replay_guard.proofs.Rows.{added}
use Rattle.replay_guard.proofs.guard.Guard.add.Goals as goal

pub returns-clause-ok : goal.returns-clause-ok
returns-clause-ok c =
    added c.args.self.now.latest c.self.inside.rows.items c.push.new.self.items c.in_ok-key.key (signer_of c.args.signer) c.args.time c.args.seq c.new.result
    (ap (λ (g : GuardState). g.latest) c.self.view_is) c.requires c.in_ok-key.ensures.ok c.new.ensures c.in_ok-push.ensures.items

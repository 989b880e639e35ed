use Rattle.std.proofs.Common.{ap}
use Rattle.replay_guard.specs.Guard.{GuardState, signer_of}
use Rattle.replay_guard.proofs.Rows.{not_recorded}
use Rattle.replay_guard.proofs.guard.Guard.prepare.Goals as goal

pub returns-in_err-reserve-clause-known : goal.returns-in_err-reserve-clause-known
returns-in_err-reserve-clause-known c = λ some.
    absurd (not_recorded c.args.self.now.latest _ (signer_of c.args.signer) c.is_recorded.result c.is_recorded.ensures c.if-is_recorded.false (ap (λ (g : GuardState). g.latest) c.self.view_is) some)

pub returns-in_err-key-clause-known : goal.returns-in_err-key-clause-known
returns-in_err-key-clause-known c = λ some.
    absurd (not_recorded c.args.self.now.latest _ (signer_of c.args.signer) c.is_recorded.result c.is_recorded.ensures c.if-is_recorded.false (ap (λ (g : GuardState). g.latest) c.self.view_is) some)

use Rattle.std.proofs.Common.{refl}
use Rattle.ndn_daemon.proofs.Telling.{ends_printed, ends_quiet}
use Rattle.ndn_daemon.proofs.turns.take_as_asked.Goals as goal

pub returns-then-options-clause-ended : goal.returns-then-options-clause-ended
returns-then-options-clause-ended g c =
    rw c.if-options.true
    (ends_quiet (λ steps. g.P.Ports.does c.args.ports.now steps c.take_quiet_turns.new.ports) _ _ _ _ _ _ c.take_quiet_turns.result c.take_quiet_turns.ensures.done c.take_quiet_turns.ensures.stopped refl)

pub returns-else-options-clause-ended : goal.returns-else-options-clause-ended
returns-else-options-clause-ended g c =
    rw c.if-options.false
    (ends_printed (λ steps. g.P.Ports.does c.args.ports.now steps c.take_turns.new.ports) _ _ _ _ _ _ c.take_turns.result c.take_turns.ensures.done c.take_turns.ensures.stopped)

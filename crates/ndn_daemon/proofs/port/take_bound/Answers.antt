use Rattle.std.proofs.Common.{inr}
use Rattle.std.proofs.lemmas.Result.{IfErr-weaker}
use Rattle.ndn_daemon.specs.Turn.{EndsTurns, HasNoTurns, StopsAt}
use Rattle.ndn_daemon.proofs.Telling.{no_fault}
use Rattle.ndn_daemon.proofs.port.take_bound.Goals as goal

pub returns-then-not-connects-clause-fault : goal.returns-then-not-connects-clause-fault
returns-then-not-connects-clause-fault g c = λ plain.
    IfErr-weaker c.take_as_begun.result EndsTurns (StopsAt c.args.options.now) (λ f h. inr h) (c.take_as_begun.ensures.fault plain)

pub returns-then-not-connects-clause-none : goal.returns-then-not-connects-clause-none
returns-then-not-connects-clause-none g c = λ zero plain. no_fault c.take_as_begun.result (HasNoTurns c.args.options.now) (c.take_as_begun.ensures.none zero plain)

pub returns-in-Ok-clause-fault : goal.returns-in-Ok-clause-fault
returns-in-Ok-clause-fault g c = λ plain.
    IfErr-weaker c.take_as_begun-in-Ok.result EndsTurns (StopsAt c.args.options.now) (λ f h. inr h) (c.take_as_begun-in-Ok.ensures.fault plain)

pub returns-in-Ok-clause-none : goal.returns-in-Ok-clause-none
returns-in-Ok-clause-none g c = λ zero plain. no_fault c.take_as_begun-in-Ok.result (HasNoTurns c.args.options.now) (c.take_as_begun-in-Ok.ensures.none zero plain)

use Rattle.mgmt_core.specs.Reading.{asked}
use Rattle.commands_conformance.proofs.OpenRoutes.{still_up}
use Rattle.commands_conformance.proofs.management.effects.Station.apply.Goals as goal

pub invariant_of-self : goal.invariant_of-self
invariant_of-self c =
    still_up c.apply.result (λ a. a.status) (asked c.args.command.now) 9 1000000 c.self.inside.up c.self.inside.tables.fib.table c.apply.new.tables.fib.table
    c.self.inside.tables.strategies.table c.apply.ensures.status c.apply.ensures.routes c.apply.ensures.err_routes c.self.invariant

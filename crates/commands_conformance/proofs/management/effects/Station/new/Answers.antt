use Rattle.std.proofs.Common.{ap, ◌∙◌}
use Rattle.pit_fib.specs.NameTable.{NameTable}
use Rattle.pit_fib.specs.Fib.{Entry}
use Rattle.commands_conformance.proofs.NoRoutes.{no_routes}
use Rattle.commands_conformance.proofs.management.effects.Station.new.Goals as goal

pub invariant_of-result : goal.invariant_of-result
invariant_of-result c = no_routes _ _ (ap (λ (t : NameTable Entry). t.table) c.new-4.ensures.fib ∙ c.new-2.ensures.table)

use Rattle.std.proofs.Common.{ap, ◌∙◌}
use Rattle.std.specs.FinMap.{from_sorted}
use Rattle.ndn_names.proofs.Rows.{from_none}
use Rattle.pit_fib.specs.Route.{route_cmp}
use Rattle.pit_fib.proofs.registered.Registered.new.Goals as goal

pub returns : goal.returns
returns c = ap (λ l. from_sorted {R = route_cmp} l) c.new.ensures.items ∙ from_none route_cmp

use Rattle.std.proofs.Common.{sym, ap, ◌∙◌}
use Rattle.std.specs.Prelude.{is_some, unwrap_or}
use Rattle.std.specs.FinMap.{get, get-empty}
use Rattle.ndn_names.specs.View.{components}
use Rattle.pit_fib.specs.Fib.{no_entry}
use Rattle.pit_fib.specs.Route.{route_cmp}
use Rattle.pit_fib.proofs.fib.Fib.has_route.Goals as goal

pub returns-in-None : goal.returns-in-None
returns-in-None c = record {
  exact =
      sym (ap (λ o. is_some (get (unwrap_or o no_entry).registered c.args.key)) (ap (λ s. get s.table (components c.args.name)) (sym c.self.view_is) ∙ sym c.in-None.ensures)
      ∙ ap is_some (get-empty route_cmp c.args.key));
}

use Rattle.std.proofs.Common.{◌≡◌, sym, ap, ◌∙◌, arith}
use Rattle.std.specs.Prelude.{unwrap_or}
use Rattle.std.specs.FinMap.{get, len, len-empty}
use Rattle.ndn_names.specs.View.{components}
use Rattle.pit_fib.specs.declared.route.Route.{Route}
use Rattle.pit_fib.specs.Fib.{Entry, no_entry, registered_at}
use Rattle.pit_fib.specs.Route.{route_cmp}
use Rattle.pit_fib.proofs.FibTables.{count_remove}
use Rattle.pit_fib.proofs.fib.Fib.routes_of.Goals as goal

pub returns-in-Some-clause-few : goal.returns-in-Some-clause-few
returns-in-Some-clause-few c =
    let t = c.self.inside.entries.table in
    let name = components c.args.name in
    let less = count_remove t name in
    let most = c.self.invariant.0.registered in
    let here : c.len.result ≡ len (registered_at t name) =
    c.len.ensures ∙ ap (λ (e : Entry). len e.registered) c.entry.view_is ∙ ap (λ o. len (unwrap_or o no_entry).registered) c.in-Some.ensures in
    omega (arith, less, most, here)

pub returns-in-None-clause-exact : goal.returns-in-None-clause-exact
returns-in-None-clause-exact c =
    sym (ap (λ o. len (unwrap_or o no_entry).registered) (ap (λ s. get s.table (components c.args.name)) (sym c.self.view_is) ∙ sym c.in-None.ensures) ∙ len-empty route_cmp Route)

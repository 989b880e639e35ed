use Rattle.std.proofs.Common.{rules, ◌≡◌, ap, subst, sym, ◌∙◌}
use lib.Dec.{T}
use Rattle.std.proofs.lemmas.Fn.{filter_same}
use Rattle.std.specs.Prelude.{not}
use Rattle.std.specs.FinMap as map
use Rattle.std.specs.FinMap.{from_sorted}
use Rattle.name_trie.specs.ByName.{revise, revised}
use Rattle.name_trie.proofs.Revised.{sorted_revised, from_revised}
use Rattle.pit_fib.specs.declared.route.Route.{Route}
use Rattle.pit_fib.specs.declared.route.RouteKey.{RouteKey}
use Rattle.pit_fib.specs.Route.{Registered, is_due, until_due, route_cmp}
use Rattle.pit_fib.proofs.Routes.{left_rows}
use Rattle.pit_fib.proofs.registered.Registered.expire.Goals as goal

left : (c : goal.After-retain) → c.retain.new.self.items ≡ revised (until_due c.args.now) c.self.inside.rows.items
left c =
    filter_same _ (λ (row : RouteKey × Route). not (is_due c.args.now row.1)) _ (λ x b f' k. search rules) c.self.inside.rows.items c.retain.new.self.items c.retain.ensures.filtered
    ∙ left_rows c.args.now c.self.inside.rows.items

pub invariant_of-self : goal.invariant_of-self
invariant_of-self c = subst (λ l. T (map.is_sorted route_cmp l)) (sym (left c)) (sorted_revised route_cmp (until_due c.args.now) c.self.inside.rows.items c.self.invariant)

pub returns : goal.returns
returns c =
    ap (λ l. from_sorted {R = route_cmp} l) (left c) ∙ from_revised route_cmp (until_due c.args.now) c.self.inside.rows.items c.self.invariant
    ∙ ap (λ (m : Registered). revise (until_due c.args.now) m) c.self.view_is

use Rattle.std.proofs.Common.{rules, ap, ◌∙◌, not}
use Rattle.std.specs.Ordering.{eq_by_cmp}
use Rattle.std.proofs.lemmas.Fn.{filter_same}
use Rattle.std.specs.FinMap as map
use Rattle.ndn_names.proofs.Rows.{sorted_without, from_without}
use Rattle.pit_fib.specs.Route.{Registered, route_cmp, route_cmp-total, route_cmp-antisymmetric}
use Rattle.pit_fib.proofs.registered.Registered.remove.Goals as goal

pub invariant_of-self : goal.invariant_of-self
invariant_of-self c =
    let kept = filter_same _ (λ row. not (eq_by_cmp route_cmp row.0 c.args.key)) _ (λ x b f' k. search rules) c.self.inside.rows.items c.retain.new.self.items c.retain.ensures.filtered in
    sorted_without route_cmp-total route_cmp-antisymmetric c.self.inside.rows.items c.retain.new.self.items c.self.invariant c.args.key kept

pub returns : goal.returns
returns c =
    let kept = filter_same _ (λ row. not (eq_by_cmp route_cmp row.0 c.args.key)) _ (λ x b f' k. search rules) c.self.inside.rows.items c.retain.new.self.items c.retain.ensures.filtered in
    from_without route_cmp-total route_cmp-antisymmetric c.self.inside.rows.items c.retain.new.self.items c.self.invariant c.args.key kept
    ∙ ap (λ (m : Registered). map.remove m c.args.key) c.self.view_is

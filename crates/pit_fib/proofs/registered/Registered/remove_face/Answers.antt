use Rattle.std.proofs.Common.{rules, subst, sym, ap, ◌∙◌, ◌==◌, not}
use lib.Dec.{T}
use Rattle.std.proofs.lemmas.Fn.{filter_same}
use Rattle.std.specs.FinMap as map
use Rattle.std.specs.FinMap.{from_sorted, is_sorted}
use Rattle.pit_fib.specs.Route.{Registered, route_cmp}
use Rattle.pit_fib.proofs.Routes.{from_kept, sorted_kept}
use Rattle.pit_fib.proofs.registered.Registered.remove_face.Goals as goal

pub invariant_of-self : goal.invariant_of-self
invariant_of-self c =
    let kept = filter_same _ (λ row. not (row.0.face == c.args.face)) _ (λ x b f' k. search rules) c.self.inside.rows.items c.retain.new.self.items c.retain.ensures.filtered in
    subst (λ l. T (is_sorted route_cmp l)) (sym kept) (sorted_kept (λ k. not (k.face == c.args.face)) c.self.inside.rows.items c.self.invariant)

pub returns : goal.returns
returns c =
    let kept = filter_same _ (λ row. not (row.0.face == c.args.face)) _ (λ x b f' k. search rules) c.self.inside.rows.items c.retain.new.self.items c.retain.ensures.filtered in
    ap (λ l. from_sorted {R = route_cmp} l) kept ∙ from_kept (λ k. not (k.face == c.args.face)) c.self.inside.rows.items c.self.invariant
    ∙ ap (λ (m : Registered). map.retain_keys m (λ k. not (k.face == c.args.face))) c.self.view_is

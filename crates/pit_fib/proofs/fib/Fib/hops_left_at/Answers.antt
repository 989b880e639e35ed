use Rattle.std.proofs.Common.{◌≡◌, [], sym, ap, subst, ◌∙◌}
use Rattle.std.specs.Prelude.{IsSome}
use Rattle.std.specs.FinMap.{get}
use Rattle.ndn_names.specs.View.{components}
use Rattle.name_trie.specs.Taken.{taken_along}
use Rattle.pit_fib.specs.declared.inheriting.Inheriting.{Inheriting}
use Rattle.pit_fib.specs.Effective.{effective}
use Rattle.pit_fib.specs.Fib.{left_at}
use Rattle.pit_fib.specs.Hops.{hops_of, in_order}
use Rattle.pit_fib.specs.Inheriting.{past_entry}
use Rattle.pit_fib.specs.Tables.{ByFace}
use Rattle.pit_fib.proofs.Inheritance.{left_way_is}
use Rattle.pit_fib.proofs.fib.Fib.hops_left_at.Goals as goal

pub returns : goal.returns
returns c =
    let t = c.self.inside.entries.table in
    let name = components c.args.name in
    let now = c.args.now in
    let some : IsSome (get (left_at now t) name) = subst (λ s. IsSome (get (left_at now s.table) name)) (sym c.self.view_is) c.requires in
    let costs : c.see_along.new.see.costs ≡ effective (left_at now t) name =
    ap (λ (s : Inheriting). s.costs) (c.see_along.ensures.seen ∙ ap (λ s. taken_along past_entry past_entry s (get t) [] name) c.new-way.ensures) ∙ left_way_is t c.self.invariant.0.faces now name some in
    c.hops_in_order.ensures ∙ ap in_order c.as_slice.ensures.rows ∙ ap (λ (m : ByFace). hops_of m) costs
    ∙ ap (λ s. hops_of (effective (left_at now s.table) name)) c.self.view_is

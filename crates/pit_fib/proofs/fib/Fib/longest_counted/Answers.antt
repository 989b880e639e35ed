use Rattle.std.proofs.Common.{◌≡◌, [], length, ap, ◌∙◌}
use Rattle.std.specs.FinMap.{get}
use Rattle.ndn_names.specs.View.{components}
use Rattle.name_trie.specs.Taken.{taken_along}
use Rattle.pit_fib.specs.declared.inheriting.Inheriting.{Inheriting}
use Rattle.pit_fib.specs.Effective.{longest_costs, longest_hops}
use Rattle.pit_fib.specs.Hops.{hops_of, in_order}
use Rattle.pit_fib.specs.Inheriting.{past_entry}
use Rattle.pit_fib.specs.Tables.{ByFace}
use Rattle.pit_fib.proofs.Inheritance.{way_is}
use Rattle.pit_fib.proofs.fib.Fib.longest_counted.Goals as goal

pub returns-clause-exact : goal.returns-clause-exact
returns-clause-exact c =
    let t = c.self.inside.entries.table in
    let name = components c.args.name in
    let costs : c.see_along.new.see.costs ≡ longest_costs t name (length name) =
    ap (λ (s : Inheriting). s.costs) (c.see_along.ensures.seen ∙ ap (λ s. taken_along past_entry past_entry s (get t) [] name) c.new-way.ensures) ∙ way_is t c.self.invariant.0.faces name in
    c.hops_in_order.ensures ∙ ap in_order c.as_slice.ensures.rows ∙ ap (λ (m : ByFace). hops_of m) costs
    ∙ ap (λ s. longest_hops s.table name) c.self.view_is

use Rattle.std.proofs.Common.{[], arith, ap, subst, sym, ◌∙◌}
use Rattle.std.specs.FinMap as map
use Rattle.slab.specs.Slab.{get}
use Rattle.ndn_names.specs.View.{components}
use Rattle.name_trie.specs.Trie.{lookup, steps}
use Rattle.name_trie.specs.Taken.{taken_along}
use Rattle.name_trie.proofs.Along.{taken_same}
use Rattle.name_trie.specs.Steps.{TakesSteps}
use Rattle.name_trie.proofs.Steps.{takes_steps}
use Rattle.name_trie.proofs.Walks.{get-table}
use Rattle.name_trie.proofs.trie.NameTrie.see_along.Goals as goal

pub returns-clause-seen : goal.returns-clause-seen
returns-clause-seen g c =
    let seen = g.S.See.seen in
    let h = get c.self.inside.nodes in
    let root = c.self.inside.root in
    let name = components c.args.name in
    c.see_along.ensures.seen
    ∙ taken_same seen seen c.args.see.now (lookup h root) _ [] name 64 (λ q le. sym (get-table h root q le)) (omega (arith, c.args.name.spelled.1.0))
    ∙ ap (λ t. taken_along seen seen c.args.see.now (map.get t.table) [] name) c.self.view_is

pub returns-clause-exact : goal.returns-clause-exact
returns-clause-exact g c =
    let h = get c.self.inside.nodes in
    let root = c.self.inside.root in
    let name = components c.args.name in (
      steps h root name,
      subst (λ t. TakesSteps t name (steps h root name)) c.self.view_is (takes_steps h root c.self.invariant.0 c.self.inside.held c.self.invariant.1 c.self.invariant.2 name),
      c.see_along.ensures.exact,
    )

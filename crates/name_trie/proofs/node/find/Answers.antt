use Rattle.std.proofs.Common.{ap, sym, ◌∙◌}
use Rattle.std.specs.Prelude.{Some}
use Rattle.slab.specs.Slab.{get}
use Rattle.ndn_names.specs.View.{components_left}
use Rattle.name_trie.specs.Trie.{walk}
use Rattle.name_trie.proofs.Walks.{walk_none}
use Rattle.name_trie.proofs.node.find.Goals as goal

pub returns-in_err-at : goal.returns-in_err-at
returns-in_err-at g c =
    let h = get c.args.nodes.now in
    let rest = components_left c.loop-component.rest in
    c.from_residual.ensures ∙ sym (walk_none h rest) ∙ sym (ap (λ o. walk h o rest) c.in_err-at.was) ∙ c.loop-component.invariant

pub returns : goal.returns
returns g c = sym (ap (walk (get c.args.nodes.now) c.loop-component.at) c.in_default.ensures.steps.0) ∙ c.loop-component.invariant

pub loop-component-preserved : goal.loop-component-preserved
loop-component-preserved g c =
    let h = get c.args.nodes.now in
    ap (λ o. walk h o (components_left c.next.new.self)) c.child_of-at.ensures
    ∙ sym (ap (walk h (Some c.in_ok-at.field-0)) c.in-Some.ensures.steps)
    ∙ sym (ap (λ o. walk h o (components_left c.loop-component.rest)) c.in_ok-at.was) ∙ c.loop-component.invariant

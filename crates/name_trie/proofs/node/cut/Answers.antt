use Rattle.std.proofs.Common.{◌≡◌, ◌≢◌, ap, sym, ◌∙◌}
use Rattle.std.specs.Prelude.{Some, None}
use Rattle.std.specs.Option.{option_and_then}
use Rattle.std.specs.FinMap as map
use Rattle.slab.specs.Slab.{get}
use Rattle.name_trie.proofs.node.cut.Goals as goal

pub forget-requires : goal.forget-requires
forget-requires g c = λ a d e f.
    let h = get c.args.nodes.now in
    let p = c.in-Some.parent in
    let node = c.in-Some-get_mut.above.now in
    let rest = c.remove-node.ensures.updates in
    let left : get c.remove-node.new.self p ≡ Some node = sym c.in-Some-get_mut.ensures.value in
    let apart : p ≢ c.args.k = λ is. (let gone : get c.remove-node.new.self p ≡ None = ap (get c.remove-node.new.self) is ∙ rest.changed in cc) in
    let there : h p ≡ Some node = sym (rest.others p apart) ∙ left in
    c.requires.once p a d (ap (option_and_then (λ n. map.get n.children a)) there ∙ e) (ap (option_and_then (λ n. map.get n.children d)) there ∙ f)

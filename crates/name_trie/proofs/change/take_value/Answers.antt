use Rattle.std.proofs.Common.{◌≡◌, ap, sym, ◌∙◌, refl}
use Rattle.std.specs.Prelude.{Option, Some, IsSome}
use Rattle.slab.specs.Slab.{get}
use Rattle.slab.proofs.SlabLemmas.{Updates-with_value}
use Rattle.name_trie.proofs.Changed.{some_along}
use Rattle.name_trie.proofs.change.take_value.Goals as goal

pub returns-clause-sets : goal.returns-clause-sets
returns-clause-sets g c = λ some.
    let node = c.in_ok-get_mut.field-0.now in
    let is : get c.args.nodes.now c.args.k ≡ Some node = sym c.in_ok-get_mut.ensures.value in
    let there : IsSome (get c.args.nodes.now c.args.k) = some_along _ (Some node) is refl in
    let wrote = Updates-with_value c.args.nodes.now c.args.k (record node { value = c.take.new.self }) there in
    record {
      node = node;
      there = is;
      here = wrote.changed ∙ ap (λ (v : Option g.row.V.Denot). Some (record node { value = v })) c.take.ensures.after;
      others = wrote.others;
    }

use Rattle.slab.proofs.SlabLemmas.{Updates-with_value}
use Rattle.name_trie.proofs.node.set_value.Goals as goal

pub returns : goal.returns
returns g c =
    let wrote = Updates-with_value c.args.nodes.now c.args.at (record c.index_mut.result.now { value = c.args.value }) c.requires in
    record { node = c.index_mut.result.now; there = c.index_mut.ensures.value; here = wrote.changed; others = wrote.others }

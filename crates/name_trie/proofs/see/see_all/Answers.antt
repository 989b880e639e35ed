use Rattle.std.proofs.Common.{ap, ◌∙◌}
use Rattle.slab.specs.Slab.{get}
use Rattle.name_trie.specs.Trie.{rows}
use Rattle.name_trie.proofs.Listed.{rows_rootless}
use Rattle.name_trie.proofs.Seen.{none_seen}
use Rattle.name_trie.proofs.see.see_all.Goals as goal

pub returns-in_default : goal.returns-in_default
returns-in_default g c =
    let h = get c.args.nodes.now in
    none_seen g.S.See.seen c.args.see.now _ (ap (rows h 65) c.in_default.is ∙ rows_rootless h 65)

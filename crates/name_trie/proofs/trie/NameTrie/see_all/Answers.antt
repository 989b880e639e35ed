use Rattle.std.proofs.Common.{List, fold, ap, sym, ◌∙◌}
use Rattle.std.specs.Prelude.{map}
use Rattle.std.specs.FinMap.{values}
use Rattle.slab.specs.Slab.{get}
use Rattle.ndn_tlv.specs.Element.{Field}
use Rattle.name_trie.proofs.Listed.{entries_table}
use Rattle.name_trie.proofs.trie.NameTrie.see_all.Goals as goal

pub returns : goal.returns
returns g c =
    let seen = fold g.S.See.seen c.args.see.now in
    c.see_all.ensures
    ∙ ap (λ rows. seen (map (λ (r : List Field × g.row.V.Denot). r.1) rows)) (sym (entries_table (get c.self.inside.nodes) c.self.inside.root))
    ∙ ap (λ t. seen (values t.table)) c.self.view_is

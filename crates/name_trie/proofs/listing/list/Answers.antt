use Rattle.std.proofs.Common.{◌++◌, ap, sym, ◌∙◌, List, Bor}
use Rattle.std.specs.Prelude.{map, Some}
use Rattle.slab.specs.Slab.{get}
use Rattle.ndn_tlv.specs.Element.{Field}
use Rattle.name_trie.specs.Trie.{rows, named}
use Rattle.name_trie.proofs.Listed.{rows_rootless, named_nothing}
use Rattle.name_trie.proofs.listing.list.Goals as goal

pub returns-in_default : goal.returns-in_default
returns-in_default g c =
    let h = get c.args.nodes.now in
    ap (map (λ (r : List Field × Bor g.row.V.Denot). (r.0, r.1.now))) c.new-list.ensures.items
    ∙ sym (ap (rows h 65) c.in_default.is ∙ rows_rootless h 65)

pub returns : goal.returns
returns g c =
    let h = get c.args.nodes.now in
    let shown = map (λ (r : List Field × Bor g.row.V.Denot). (r.0, r.1.now)) in
    c.in_ok-list_below.ensures
    ∙ ap (λ l. shown l ++ named c.new-front.result (rows h 65 (Some c.in-Some.root))) c.new-list.ensures.items
    ∙ ap (λ (n : List Field). named n (rows h 65 (Some c.in-Some.root))) c.new-front.ensures
    ∙ named_nothing (rows h 65 (Some c.in-Some.root)) ∙ ap (rows h 65) (sym c.in-Some.is)

use Rattle.std.proofs.Common.{ℕ, ◌-◌, [], ◌∷◌, ◌++◌, take, append_assoc, ap, sym, ◌∙◌, List, Bor}
use Rattle.std.proofs.lemmas.List.{append-nil, take_all}
use Rattle.std.specs.Prelude.{map, Some}
use Rattle.slab.specs.Slab.{get}
use Rattle.ndn_tlv.specs.Element.{Field}
use Rattle.name_trie.specs.ByName.{with_entry}
use Rattle.name_trie.specs.Trie.{rows, below, named}
use Rattle.name_trie.proofs.Listed.{rows_none, rows_missing, rows_there, none_more, one_more}
use Rattle.name_trie.proofs.listing.+list_below.Goals as goal

pub returns-then-depth-eq0 : goal.returns-then-depth-eq0
returns-then-depth-eq0 g t c =
    let h = get c.args.nodes.now in
    none_more _ c.args.front.now _ (ap (λ (n : ℕ). rows h n (Some c.args.at)) c.if-depth-eq0.true ∙ rows_none h (Some c.args.at))

pub returns-in_default : goal.returns-in_default
returns-in_default g t c =
    let h = get c.args.nodes.now in
    none_more _ c.args.front.now _ (rows_missing h c.args.depth c.args.at (sym c.in_default.ensures))

pub loop-row-init : goal.loop-row-init
loop-row-init g t c = sym (append-nil _)

pub loop-row-preserved : goal.loop-row-preserved
loop-row-preserved g t c =
    let row = c.row-item.result in
    one_more _ _ _ c.args.front.now c.in_ok-name.name (rows (get c.args.nodes.now) (c.args.depth - 1)) c.rows-row-items.result.now c.loop-row.row-index row
    c.loop-row-test.true c.row-item.is
    (c.in_ok-name.ensures ∙ ap (λ (x : Field). c.args.front.now ++ x ∷ []) c.view.ensures)
    c.loop-row.invariant c.in_ok-list_below.ensures

pub returns : goal.returns
returns g t c =
    let h = get c.args.nodes.now in
    let f = rows h (c.args.depth - 1) in
    let front = c.args.front.now in
    let node = c.in-Some.node.now in
    let items = c.rows-row-items.result.now in
    let old = map (λ (r : List Field × Bor g.row.V.Denot). (r.0, r.1.now)) c.args.list.now.items in
    c.loop-row.invariant
    ∙ ap (λ l. l ++ named front (below f (take c.loop-row.row-index items))) c.in_ok-list_value.ensures
    ∙ append_assoc old (with_entry front node.value []) (named front (below f (take c.loop-row.row-index items)))
    ∙ ap (λ l. old ++ l)
    (ap (λ x. with_entry front node.value [] ++ named front (below f x)) (take_all c.loop-row.row-index items c.loop-row-test.false ∙ c.rows-row-items.ensures)
    ∙ sym (rows_there h c.args.depth c.args.at node front c.if-depth-eq0.false (sym c.in-Some.ensures)))

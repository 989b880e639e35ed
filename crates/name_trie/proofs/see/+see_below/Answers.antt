use Rattle.std.proofs.Common.{◌≡◌, ℕ, ◌-◌, List, fold, ap, sym, ◌∙◌}
use Rattle.std.proofs.lemmas.List.{take_all}
use Rattle.std.specs.Prelude.{map, Some}
use Rattle.std.specs.FinMap.{entries}
use Rattle.slab.specs.Slab.{get}
use Rattle.ndn_tlv.specs.Element.{Field}
use Rattle.name_trie.specs.Taken.{taken}
use Rattle.name_trie.specs.Trie.{rows, below}
use Rattle.name_trie.proofs.Listed.{rows_none, rows_missing}
use Rattle.name_trie.proofs.Seen.{seen_more, seen_there, none_seen}
use Rattle.name_trie.proofs.see.+see_below.Goals as goal
use Rattle.name_trie.proofs.see.+see_below.Goals.{in-Some-value, in_default-value}

pub returns-then-depth-eq0 : goal.returns-then-depth-eq0
returns-then-depth-eq0 g t c =
    let h = get c.args.nodes.now in
    none_seen g.S.See.seen c.args.see.now _ (ap (λ (n : ℕ). rows h n (Some c.args.at)) c.if-depth-eq0.true ∙ rows_none h (Some c.args.at))

pub returns-in_default : goal.returns-in_default
returns-in_default g t c =
    none_seen g.S.See.seen c.args.see.now _ (rows_missing (get c.args.nodes.now) c.args.depth c.args.at (sym c.in_default.ensures))

pub loop-row-preserved : goal.loop-row-preserved
loop-row-preserved g t c =
    let seen = g.S.See.seen in
    let row = c.row-item.result in
    let f = rows (get c.args.nodes.now) (c.args.depth - 1) in
    c.see_below.ensures
    ∙ ap (λ s. fold seen s (map (λ (r : List Field × g.row.V.Denot). r.1) (f (Some row.1)))) c.loop-row.invariant
    ∙ sym (seen_more seen c.match-node.see f c.rows-row-items.result.now c.loop-row.row-index row c.loop-row-test.true c.row-item.is)

pub returns : goal.returns
returns g t c =
    let seen = g.S.See.seen in
    let h = get c.args.nodes.now in
    let f = rows h (c.args.depth - 1) in
    let node = c.in-Some.node.now in
    let items = c.rows-row-items.result.now in
    let first : c.match-node.see ≡ taken seen c.args.see.now node.value = elim c.match-node.branch as (λ _. c.match-node.see ≡ taken seen c.args.see.now node.value) [
      | (in-Some-value w) ↦ w.see-is ∙ w.see.ensures ∙ ap (taken seen c.args.see.now) (sym w.in-Some-value.is)
      | (in_default-value w) ↦ w.see-is ∙ ap (taken seen c.args.see.now) (sym w.in_default-value.is)
    ] in
    c.loop-row.invariant
    ∙ ap (λ rows. fold seen c.match-node.see (map (λ (r : List Field × g.row.V.Denot). r.1) (below f rows))) (take_all c.loop-row.row-index items c.loop-row-test.false ∙ c.rows-row-items.ensures)
    ∙ ap (λ s. fold seen s (map (λ (r : List Field × g.row.V.Denot). r.1) (below f (entries node.children)))) first
    ∙ sym (seen_there seen c.args.see.now h c.args.depth c.args.at node c.if-depth-eq0.false (sym c.in-Some.ensures))

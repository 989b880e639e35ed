use Rattle.std.proofs.Common.{◌≡◌, ℕ, ◌+◌, ◌-◌, ◌++◌, take, length, List, ap, sym, ◌∙◌}
use Rattle.std.proofs.lemmas.List.{take_all}
use Rattle.std.proofs.Math.Seq.{take-append_seam}
use Rattle.std.specs.Prelude.{Some}
use Rattle.slab.specs.Slab.{get}
use Rattle.ndn_tlv.specs.Element.{Field, element}
use Rattle.ndn_names.specs.View.{field_of}
use Rattle.name_trie.specs.Shown.{known_at, shown_after, shown_if}
use Rattle.name_trie.specs.Trie.{below, lookup, rows}
use Rattle.name_trie.proofs.Listed.{rows_none, rows_missing}
use Rattle.name_trie.proofs.Shown.{here_is, known_below, linked_row, none_shown, shown_more, shown_node}
use Rattle.name_trie.proofs.show.+show_below.Goals as goal

pub returns-then-depth-eq0-clause-shown : goal.returns-then-depth-eq0-clause-shown
returns-then-depth-eq0-clause-shown g t c =
    let h = get c.args.nodes.now in
    none_shown g.S.Show.shown c.args.show.now c.args.name.now.items _ _ (ap (λ (n : ℕ). rows h n (Some c.args.at)) c.if-depth-eq0.true ∙ rows_none h (Some c.args.at))

pub returns-in_default-clause-shown : goal.returns-in_default-clause-shown
returns-in_default-clause-shown g t c =
    none_shown g.S.Show.shown c.args.show.now c.args.name.now.items _ _ (rows_missing (get c.args.nodes.now) c.args.depth c.args.at (sym c.in_default.ensures))

pub loop-row-preserved : goal.loop-row-preserved
loop-row-preserved g t c =
    let shown = g.S.Show.shown in
    let past = g.W.Carry.past in
    let h = get c.args.nodes.now in
    let node = c.in-Some.node.now in
    let row = c.row-item.result in
    let items = c.rows-row-items.result.now in
    let front = c.args.name.now.items in
    let before = c.args.before.now in
    let here = c.in_ok-here.here.now in
    let f = rows h (c.args.depth - 1) in
    let name : c.put_component.new.name.items ≡ front ++ element row.0 =
    c.in_ok-put_component.ensures
    ∙ ap (λ (x : List ℕ). x ++ element (field_of c.view.result)) c.loop-row.invariant.name
    ∙ ap (λ (x : Field). front ++ element x) c.view.ensures in
    let here_now = c.in_ok-here.ensures.here ∙ here_is past before node.value c.past_value-past.result c.past_value-past.ensures in
    record {
      name =
          c.truncate.ensures.items
          ∙ ap (take c.len-len.result) (c.in_ok-show_below.ensures.name ∙ name)
          ∙ ap (λ (n : ℕ). take n (front ++ element row.0)) (c.len-len.ensures ∙ c.loop-row.name.ok.0 ∙ ap length c.loop-row.invariant.name)
          ∙ take-append_seam front (element row.0);
      shown =
          shown_more shown _ c.loop-row.show _ front (known_at past before (lookup h (Some c.args.at))) (known_at past here (lookup h (Some row.1))) f items c.loop-row.row-index row
          c.loop-row-test.true c.row-item.is
          (known_below past before h c.args.at node (sym c.in-Some.ensures) here here_now row (linked_row node.children items c.loop-row.row-index row c.loop-row-test.true c.row-item.is c.rows-row-items.ensures))
          c.loop-row.invariant.shown
          (c.in_ok-show_below.ensures.shown ∙ ap (λ (x : List ℕ). shown_after shown x (known_at past here (lookup h (Some row.1))) c.loop-row.show (f (Some row.1))) name);
    }

pub returns-clause-shown : goal.returns-clause-shown
returns-clause-shown g t c =
    let shown = g.S.Show.shown in
    let past = g.W.Carry.past in
    let h = get c.args.nodes.now in
    let node = c.in-Some.node.now in
    let items = c.rows-row-items.result.now in
    let front = c.args.name.now.items in
    let before = c.args.before.now in
    let known = known_at past before (lookup h (Some c.args.at)) in
    let o = c.past_value-past.result in
    let f = rows h (c.args.depth - 1) in
    c.loop-row.invariant.shown
    ∙ ap (λ s. shown_after shown front known s (below f (take c.loop-row.row-index items))) (c.in_ok-here.ensures.shown ∙ ap (λ (x : List ℕ). shown_if shown c.args.show.now x o) c.deref.ensures.value)
    ∙ ap (λ rows. shown_after shown front known (shown_if shown c.args.show.now front o) (below f rows)) (take_all c.loop-row.row-index items c.loop-row-test.false ∙ c.rows-row-items.ensures)
    ∙ sym (shown_node shown c.args.show.now front past before h c.args.depth c.args.at node o c.if-depth-eq0.false (sym c.in-Some.ensures) c.past_value-past.ensures)

use Rattle.std.proofs.Common.{ℕ, List, [], ap, sym, ◌∙◌}
use Rattle.std.specs.Prelude.{Option, Some}
use Rattle.ndn_tlv.specs.Element.{Field}
use Rattle.slab.specs.Slab.{get}
use Rattle.name_trie.specs.Shown.{known_at, shown_after, shown_known}
use Rattle.name_trie.specs.Trie.{lookup, rows}
use Rattle.name_trie.proofs.Changed.{on_ok_then}
use Rattle.name_trie.proofs.Listed.{rows_rootless}
use Rattle.name_trie.proofs.Shown.{none_shown}
use Rattle.name_trie.proofs.show.show_all.Goals as goal

pub returns-in_default : goal.returns-in_default
returns-in_default g c =
    let h = get c.args.nodes.now in
    none_shown g.S.Show.shown c.args.show.now [] _ _ (ap (rows h 65) c.in_default.is ∙ rows_rootless h 65)

pub returns : goal.returns
returns g c =
    let shown = g.S.Show.shown in
    let h = get c.args.nodes.now in
    let known : Option ℕ → List Field → g.row.W.Denot = λ o. known_at g.W.Carry.past c.args.before.now (lookup h o) in
    on_ok_then c.show_below.result c.show_below.ensures.shown
    (λ e. e
    ∙ ap (λ (x : List ℕ). shown_after shown x (known (Some c.in-Some.root)) c.args.show.now (rows h 65 (Some c.in-Some.root))) c.new-name.ensures.items
    ∙ ap (λ (o : Option ℕ). shown_known shown (known o) c.args.show.now (rows h 65 o)) (sym c.in-Some.is))

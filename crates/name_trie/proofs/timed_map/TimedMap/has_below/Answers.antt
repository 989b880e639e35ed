use Rattle.std.proofs.Common.{[], ◌∷◌, ◌++◌, ap, sym, ◌∙◌}
use Rattle.std.specs.Option.{option_and_then}
use Rattle.std.specs.FinMap as map
use Rattle.slab.specs.Slab.{get}
use Rattle.ndn_names.specs.View.{components}
use Rattle.name_trie.specs.Trie.{value, down}
use Rattle.name_trie.proofs.Walks.{get_nothing}
use Rattle.name_trie.proofs.Changed.{walk-append}
use Rattle.name_trie.proofs.timed_map.TimedMap.has_below.Goals as goal

pub returns-in-Some : goal.returns-in-Some
returns-in-Some g c = λ none x le.
    let h = get c.self.inside.nodes in
    let root = c.self.inside.root in
    let name = components c.args.name in
    ap (λ t. map.get t.table (name ++ x ∷ [])) (sym c.self.view_is)
    ∙ get_nothing h root (name ++ x ∷ [])
    (ap (option_and_then (value h)) (walk-append h root name (x ∷ []) ∙ ap (λ o. down h o x) (sym c.in-Some.ensures) ∙ c.has_child_up_to.ensures.no none x le))

pub returns-in-None : goal.returns-in-None
returns-in-None g c = λ none x le.
    let h = get c.self.inside.nodes in
    let root = c.self.inside.root in
    let name = components c.args.name in
    ap (λ t. map.get t.table (name ++ x ∷ [])) (sym c.self.view_is)
    ∙ get_nothing h root (name ++ x ∷ []) (ap (option_and_then (value h)) (walk-append h root name (x ∷ []) ∙ ap (λ o. down h o x) (sym c.in-None.ensures)))

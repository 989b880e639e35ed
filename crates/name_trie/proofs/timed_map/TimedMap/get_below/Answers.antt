use Rattle.std.proofs.Common.{◌≡◌, [], ◌∷◌, ◌++◌, ap, sym, ◌∙◌, Bor}
use Rattle.std.specs.Prelude.{Some}
use Rattle.std.specs.Option.{option_and_then, option_map}
use Rattle.std.specs.FinMap as map
use Rattle.slab.specs.Slab.{get}
use Rattle.ndn_names.specs.View.{components, field_of}
use Rattle.name_trie.specs.Trie.{value, down, walk}
use Rattle.name_trie.proofs.Walks.{get-table, get_nothing}
use Rattle.name_trie.proofs.Changed.{short_name, walk-append}
use Rattle.name_trie.proofs.timed_map.TimedMap.get_below.Goals as goal

pub returns-in_err-at : goal.returns-in_err-at
returns-in_err-at g c =
    let h = get c.self.inside.nodes in
    let root = c.self.inside.root in
    let name = components c.args.name in
    let x = field_of c.args.component in
    ap (option_map (λ (v : Bor g.row.V.Denot). v.now)) c.from_residual.ensures
    ∙ sym (get_nothing h root (name ++ x ∷ []) (ap (option_and_then (value h)) (walk-append h root name (x ∷ []) ∙ ap (λ o. down h o x) (sym c.in_err-at.ensures))))
    ∙ ap (λ t. map.get t.table (name ++ x ∷ [])) c.self.view_is

pub returns-in_err-k : goal.returns-in_err-k
returns-in_err-k g c =
    let h = get c.self.inside.nodes in
    let root = c.self.inside.root in
    let name = components c.args.name in
    let x = field_of c.args.component in
    ap (option_map (λ (v : Bor g.row.V.Denot). v.now)) c.from_residual-in_err-k.ensures
    ∙ sym (get_nothing h root (name ++ x ∷ [])
    (ap (option_and_then (value h)) (walk-append h root name (x ∷ []) ∙ ap (λ o. down h o x) (sym c.in_ok-at.ensures) ∙ sym c.in_err-k.ensures)))
    ∙ ap (λ t. map.get t.table (name ++ x ∷ [])) c.self.view_is

pub returns : goal.returns
returns g c =
    let h = get c.self.inside.nodes in
    let root = c.self.inside.root in
    let x = field_of c.args.component in
    let name = components c.args.name ++ x ∷ [] in
    let led : walk h root name ≡ Some c.in_ok-k.k = walk-append h root (components c.args.name) (x ∷ []) ∙ ap (λ o. down h o x) (sym c.in_ok-at.ensures) ∙ sym c.in_ok-k.ensures in
    c.value_of.ensures ∙ ap (option_and_then (value h)) (sym led)
    ∙ sym (get-table h root name (short_name h root c.self.invariant.0 name c.in_ok-k.k led)) ∙ ap (λ t. map.get t.table name) c.self.view_is

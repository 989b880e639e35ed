use Rattle.std.proofs.Common.{◌≡◌, true, false, [], ◌∷◌, ◌++◌, append_assoc, ap, sym, ◌∙◌}
use Rattle.std.specs.Prelude.{Some}
use Rattle.std.specs.Option.{option_and_then}
use Rattle.slab.specs.Slab.{get}
use Rattle.ndn_names.specs.View.{components_left, field_of}
use Rattle.name_trie.specs.Trie.{value, down, walk, lookup}
use Rattle.name_trie.specs.Taken.{taken, taken_along}
use Rattle.name_trie.proofs.Along.{nothing_taken, nothing_below}
use Rattle.name_trie.proofs.Changed.{walk-append}
use Rattle.name_trie.proofs.look.look_along.Goals as goal

pub loop-next-preserved : goal.loop-next-preserved
loop-next-preserved g c =
    let own = g.L.Look.seen true in
    let below = g.L.Look.seen false in
    let h = get c.args.nodes.now in
    let root = c.args.root in
    let x = field_of c.in-Some-next.component in
    let rest = components_left c.next.new.self in
    let path = c.loop-next.invariant in
    let at : walk h root path.0 ≡ Some c.in-Some.at = path.2 ∙ c.in-Some.is in (
      path.0 ++ x ∷ [],
      append_assoc path.0 (x ∷ []) rest ∙ ap (λ l. path.0 ++ l) (sym c.in-Some-next.ensures.steps) ∙ path.1,
      walk-append h root path.0 (x ∷ []) ∙ ap (λ o. down h o x) at ∙ sym c.child_of-next.ensures,
      ap (λ s. taken_along own below s (lookup h root) (path.0 ++ x ∷ []) rest)
          (c.look_at-in-Some.ensures ∙ ap (taken below c.loop-next.look) (sym (ap (option_and_then (value h)) at)))
          ∙ ap (taken_along own below c.loop-next.look (lookup h root) path.0) (sym c.in-Some-next.ensures.steps) ∙ path.3,
    )

-- The walk stopped at a prefix of the name that leads to no node, so no name that begins with this
-- prefix has a value. Hence the visitor has seen all values along the name.
pub returns : goal.returns
returns g c =
    let own = g.L.Look.seen true in
    let below = g.L.Look.seen false in
    let h = get c.args.nodes.now in
    let root = c.args.root in
    let path = c.loop-next.invariant in
    sym (nothing_taken own below c.loop-next.look (lookup h root) path.0 (components_left c.loop-next.rest) (nothing_below h root path.0 (path.2 ∙ c.in_default.is)))
    ∙ path.3

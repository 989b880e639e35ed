use Rattle.std.proofs.Common.{◌≡◌, suc, [], ◌∷◌, ◌++◌, append_assoc, length, arith, ap, sym, ◌∙◌}
use Rattle.std.specs.Prelude.{Some}
use Rattle.std.specs.Option.{option_and_then}
use Rattle.slab.specs.Slab.{get}
use Rattle.ndn_names.specs.View.{components_left, field_of}
use Rattle.name_trie.specs.Trie.{value, child, down, walk, lookup, steps}
use Rattle.name_trie.specs.Taken.{taken, taken_along}
use Rattle.name_trie.proofs.Along.{nothing_taken, nothing_below}
use Rattle.name_trie.proofs.Changed.{walk-append}
use Rattle.name_trie.proofs.see.see_along.Goals as goal

pub loop-next-preserved : goal.loop-next-preserved
loop-next-preserved g c =
    let seen = g.S.See.seen in
    let h = get c.args.nodes.now in
    let root = c.args.root in
    let x = field_of c.in-Some-next.component in
    let rest = components_left c.next.new.self in
    let path = c.loop-next.invariant.path in
    let at : walk h root path.0 ≡ Some c.in-Some.at = path.2 ∙ c.in-Some.is in
    let longer = ap length c.in-Some-next.ensures.steps in
    record {
      path = (
        path.0 ++ x ∷ [],
        append_assoc path.0 (x ∷ []) rest ∙ ap (λ l. path.0 ++ l) (sym c.in-Some-next.ensures.steps) ∙ path.1,
        walk-append h root path.0 (x ∷ []) ∙ ap (λ o. down h o x) at ∙ sym c.child_of-next.ensures,
        ap (λ s. taken_along seen seen s (lookup h root) (path.0 ++ x ∷ []) rest)
            (c.see_at.ensures ∙ ap (taken seen c.loop-next.see) (sym (ap (option_and_then (value h)) at)))
            ∙ ap (taken_along seen seen c.loop-next.see (lookup h root) path.0) (sym c.in-Some-next.ensures.steps) ∙ path.3,
      );
      counted = omega (arith, c.loop-next.invariant.counted);
      cost = omega (arith, c.loop-next.invariant.cost, longer);
      exact =
          let taken_one : steps h c.loop-next.next (components_left c.loop-next.rest) ≡ suc (steps h (child h c.in-Some.at x) rest) =
          ap (λ o. steps h o (components_left c.loop-next.rest)) c.in-Some.is ∙ ap (steps h (Some c.in-Some.at)) c.in-Some-next.ensures.steps in
          let reached : steps h c.child_of-next.result rest ≡ steps h (child h c.in-Some.at x) rest = ap (λ o. steps h o rest) c.child_of-next.ensures in
          omega (arith, c.loop-next.invariant.exact, taken_one, reached);
      small = c.loop-next.invariant.small;
    }

-- The walk stopped at a prefix of the name that leads to no node, so no name that begins with this
-- prefix has a value. Hence the visitor has seen all values along the name.
pub returns-clause-seen : goal.returns-clause-seen
returns-clause-seen g c =
    let seen = g.S.See.seen in
    let h = get c.args.nodes.now in
    let root = c.args.root in
    let path = c.loop-next.invariant.path in
    sym (nothing_taken seen seen c.loop-next.see (lookup h root) path.0 (components_left c.loop-next.rest) (nothing_below h root path.0 (path.2 ∙ c.in_default.is)))
    ∙ path.3

pub returns-clause-exact : goal.returns-clause-exact
returns-clause-exact g c =
    let h = get c.args.nodes.now in
    let over : steps h c.loop-next.next (components_left c.loop-next.rest) ≡ 0 = ap (λ o. steps h o (components_left c.loop-next.rest)) c.in_default.is in
    omega (arith, c.loop-next.invariant.exact, over)

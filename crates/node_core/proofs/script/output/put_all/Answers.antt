use Rattle.std.proofs.Common.{◌≡◌, List, ℕ, [], ◌++◌, refl, sym, ap, ◌∙◌, append-nil, take}
use Rattle.node_core.proofs.Lists.{empty_list, front_longer}
use Rattle.node_core.proofs.Known.{Appends-start, Appends-then}
use Rattle.node_core.proofs.script.output.put_all.Goals as goal

pub loop-init : goal.loop-init
loop-init g c = ([], refl, Appends-start _)

pub returns-then-is_empty-clause-done : goal.returns-then-is_empty-clause-done
returns-then-is_empty-clause-done g c =
    let i = c.loop.invariant in
    let none = empty_list c.loop.rest.now (sym c.is_empty.ensures ∙ c.if-is_empty.true) in
    let whole : c.args.octets.now ≡ i.0 = i.1 ∙ ap (λ (d : List ℕ). i.0 ++ d) none ∙ append-nil i.0 in
    rw whole i.2

pub loop-preserved : goal.loop-preserved
loop-preserved g c =
    let i = c.loop.invariant in (
      i.0 ++ take c.in_ok-count.count c.loop.rest.now,
      front_longer c.args.octets.now i.0 c.loop.rest.now c.in_ok-count.count i.1,
      Appends-then _ _ _ i.0 (take c.in_ok-count.count c.loop.rest.now) i.2 c.in_ok-count.ensures.taken,
    )

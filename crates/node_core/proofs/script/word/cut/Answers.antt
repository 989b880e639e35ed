use Rattle.std.proofs.Common.{◌+◌, arith, take, ◌∷◌, ◌++◌, ◌∙◌, ap, List, ℕ}
use Rattle.node_core.proofs.Lists.{Lacks-from_places, Lacks-take, split_at_place, take_rest}
use Rattle.node_core.proofs.script.word.cut.Goals as goal

pub returns-then-octet-at-clause-found : goal.returns-then-octet-at-clause-found
returns-then-octet-at-clause-found c =
    let text = c.args.text.now in
    let i = c.loop-i.i in (
      split_at_place text i c.args.at c.loop-i-test.true c.if-octet-at.true
          ∙ ap (λ (d : List ℕ). take i text ++ (c.args.at ∷ d)) (take_rest (i + 1) text),
      Lacks-take c.args.at text i c.loop-i.invariant c.loop-i-test.true,
    )

pub returns-clause-none : goal.returns-clause-none
returns-clause-none c =
    Lacks-from_places c.args.at c.args.text.now (λ k lt e. c.loop-i.invariant k (omega arith) e)

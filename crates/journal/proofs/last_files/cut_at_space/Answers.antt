use Rattle.std.proofs.Common.{◌+◌, arith, take, ◌∷◌, ◌++◌, ◌∙◌, ap, List, ℕ}
use Rattle.node_core.proofs.Lists.{Lacks-from_places, Lacks-take, split_at_place, take_rest}
use Rattle.journal.proofs.last_files.cut_at_space.Goals as goal

pub returns-then-octet-eq32-clause-found : goal.returns-then-octet-eq32-clause-found
returns-then-octet-eq32-clause-found c =
    let text = c.args.text.now in
    let i = c.loop-i.i in (
      split_at_place text i 32 c.loop-i-test.true c.if-octet-eq32.true
          ∙ ap (λ (d : List ℕ). take i text ++ (32 ∷ d)) (take_rest (i + 1) text),
      Lacks-take 32 text i c.loop-i.invariant c.loop-i-test.true,
    )

pub returns-clause-none : goal.returns-clause-none
returns-clause-none c =
    Lacks-from_places 32 c.args.text.now (λ k lt e. c.loop-i.invariant k (omega arith) e)

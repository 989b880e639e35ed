use Rattle.std.proofs.Common.{◌∷◌, ◌++◌, sym, ◌∙◌}
use Rattle.node_core.proofs.Lists.{Lacks-no_cut, cut_once}
use Rattle.node_core.proofs.script.word.three_words.Goals as goal

pub returns-in_err-first-clause-none : goal.returns-in_err-first-clause-none
returns-in_err-first-clause-none c =
    rw c.from_residual.ensures (λ a b d la lb e. Lacks-no_cut 32 a (b ++ (32 ∷ d)) (rw e at c.in_err-first.ensures.none))

pub returns-in_err-second-clause-none : goal.returns-in_err-second-clause-none
returns-in_err-second-clause-none c =
    rw c.from_residual-in_err-second.ensures (λ a b d la lb e.
    let first = c.in_ok-first.ensures.found in
    let same = cut_once 32 c.in_ok-first.first.now c.in_ok-first.rest.now a (b ++ (32 ∷ d)) first.1 la (sym first.0 ∙ e) in
    Lacks-no_cut 32 b d (rw same.back at c.in_err-second.ensures.none))

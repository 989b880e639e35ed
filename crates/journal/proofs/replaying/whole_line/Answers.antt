use Rattle.std.proofs.Common.{ℕ, [], ◌∷◌, ◌++◌, ap, ◌∙◌}
use Rattle.journal.proofs.Replays.{all_lack, front_lacks}
use Rattle.journal.proofs.replaying.whole_line.Goals as goal

pub returns-then-last-eq10-clause-found : goal.returns-then-last-eq10-clause-found
returns-then-last-eq10-clause-found c =
    let line = c.in_ok-last.line.now in
    (c.in_ok-last.ensures.cases.0 ∙ ap (λ (o : ℕ). line ++ (o ∷ [])) c.if-last-eq10.true, front_lacks c.args.octets.now line c.in_ok-last.last.now c.in_ok-last.ensures.cases.0 c.requires)

pub returns-else-last-eq10-clause-none : goal.returns-else-last-eq10-clause-none
returns-else-last-eq10-clause-none c =
    all_lack c.args.octets.now c.in_ok-last.line.now c.in_ok-last.last.now c.in_ok-last.ensures.cases.0 c.requires c.if-last-eq10.false

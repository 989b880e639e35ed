use Rattle.std.proofs.Common.{◌∙◌}
use Rattle.name_patterns.proofs.Places.{run_is, run_at}
use Rattle.name_patterns.proofs.search.run_at.Goals as goal

pub returns-clause-exact : goal.returns-clause-exact
returns-clause-exact c = λ test cs are low. c.trailing_ones.ensures ∙ run_at test cs c.args.passed c.args.place c.requires.0 low are

pub returns-clause-small : goal.returns-clause-small
returns-clause-small c = rw c.trailing_ones.ensures (run_is c.args.passed c.args.place c.requires.0 c.requires.1)

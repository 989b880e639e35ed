use Rattle.repo_core.proofs.Verbs.{verb_after}
use Rattle.repo_core.proofs.law.verbs_follow_the_prefix.Goals as goal

pub returns : goal.returns
returns c = λ start name verb. verb_after start name verb

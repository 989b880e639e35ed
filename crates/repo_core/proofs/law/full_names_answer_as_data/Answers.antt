use Rattle.repo_core.proofs.FullNames.{as_data}
use Rattle.repo_core.proofs.law.full_names_answer_as_data.Goals as goal

pub returns : goal.returns
returns c = λ name asked digest flag. as_data asked name digest flag

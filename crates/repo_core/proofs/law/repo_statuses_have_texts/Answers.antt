use Rattle.repo_core.proofs.Texts.{reply_has_text}
use Rattle.repo_core.proofs.law.repo_statuses_have_texts.Goals as goal

pub returns : goal.returns
returns c = λ s command. reply_has_text s command

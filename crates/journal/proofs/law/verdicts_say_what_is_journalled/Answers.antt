use Rattle.journal.proofs.Verdicts.{step_says}
use Rattle.journal.proofs.law.verdicts_say_what_is_journalled.Goals as goal

pub returns : goal.returns
returns c = step_says

use Rattle.journal.proofs.Texts.{survives}
use Rattle.journal.proofs.law.journals_survive_crashes.Goals as goal

pub returns : goal.returns
returns c = survives

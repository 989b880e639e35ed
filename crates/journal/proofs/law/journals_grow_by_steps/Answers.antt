use Rattle.journal.proofs.JournalSteps.{both_grow}
use Rattle.journal.proofs.Texts.{texts_join}
use Rattle.journal.proofs.Verdicts.{step_grows}
use Rattle.journal.proofs.law.journals_grow_by_steps.Goals as goal

pub returns-clause-journal : goal.returns-clause-journal
returns-clause-journal c = step_grows

pub returns-clause-text : goal.returns-clause-text
returns-clause-text c = texts_join

pub returns-clause-both : goal.returns-clause-both
returns-clause-both c = both_grow

use Rattle.journal.proofs.Journals.{one_journal, some_journal}
use Rattle.journal.proofs.law.journals_are_one.Goals as goal

pub returns-clause-some : goal.returns-clause-some
returns-clause-some c = some_journal

pub returns-clause-one : goal.returns-clause-one
returns-clause-one c = one_journal

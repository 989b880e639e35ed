use Rattle.journal.proofs.Beginnings.{keeps_beginning}
use Rattle.journal.proofs.law.crashes_leave_a_beginning.Goals as goal

pub returns : goal.returns
returns c = keeps_beginning

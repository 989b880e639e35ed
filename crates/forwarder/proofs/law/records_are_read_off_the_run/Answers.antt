use Rattle.forwarder.specs.Runs.{past_causes}
use Rattle.pit_fib.proofs.PendingPast.{asks_of_run, asked_of_run}
use Rattle.forwarder.proofs.law.records_are_read_off_the_run.Goals as goal

pub returns-clause-in_records : goal.returns-clause-in_records
returns-clause-in_records c = λ past key face. asks_of_run (past_causes past) key face

pub returns-clause-out_records : goal.returns-clause-out_records
returns-clause-out_records c = λ past key face. asked_of_run (past_causes past) key face

use Rattle.pit_fib.proofs.PendingPast.{asks_of_run, asked_of_run, alive_of_run}
use Rattle.pit_fib.proofs.law.records_are_the_past.Goals as goal

pub returns : goal.returns
returns c = record { in_records = asks_of_run; out_records = asked_of_run; alive = alive_of_run }

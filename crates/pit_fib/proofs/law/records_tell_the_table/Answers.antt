use Rattle.pit_fib.proofs.PendingPlaces.{same_table}
use Rattle.pit_fib.proofs.law.records_tell_the_table.Goals as goal

pub returns : goal.returns
returns c = same_table

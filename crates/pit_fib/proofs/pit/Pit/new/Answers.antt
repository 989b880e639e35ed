use Rattle.pit_fib.proofs.KeptTables.{empty_pending, within_empty}
use Rattle.pit_fib.proofs.Tokenless.{tokenless_empty}
use Rattle.pit_fib.proofs.pit.Pit.new.Goals as goal

pub invariant_of-result : goal.invariant_of-result
invariant_of-result c = (within_empty c.new.result.table c.new.ensures.table, tt, λ _. tokenless_empty _ (empty_pending c.new.result.table c.new.ensures.table))

pub returns-clause-pending : goal.returns-clause-pending
returns-clause-pending c = empty_pending c.new.result.table c.new.ensures.table

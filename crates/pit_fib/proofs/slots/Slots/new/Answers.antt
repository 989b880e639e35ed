use Rattle.pit_fib.proofs.Rows.{empty_row}
use Rattle.pit_fib.proofs.slots.Slots.new.Goals as goal

pub returns : goal.returns
returns c = empty_row

use Rattle.pit_fib.proofs.LongestRoutes.{due_is}
use Rattle.pit_fib.proofs.law.routes_that_end_are_counted.Goals as goal

pub returns : goal.returns
returns c = due_is

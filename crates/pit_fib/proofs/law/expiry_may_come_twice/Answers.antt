use Rattle.pit_fib.proofs.PendingPast.{expires_again}
use Rattle.pit_fib.proofs.law.expiry_may_come_twice.Goals as goal

pub returns : goal.returns
returns c = expires_again

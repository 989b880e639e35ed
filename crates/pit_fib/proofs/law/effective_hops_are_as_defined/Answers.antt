use Rattle.pit_fib.proofs.Effective.{effective_is}
use Rattle.pit_fib.proofs.law.effective_hops_are_as_defined.Goals as goal

pub returns : goal.returns
returns c = effective_is

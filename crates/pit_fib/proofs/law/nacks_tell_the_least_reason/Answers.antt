use Rattle.pit_fib.proofs.Nacks.{not_pending, least_goes_back}
use Rattle.pit_fib.proofs.law.nacks_tell_the_least_reason.Goals as goal

pub returns : goal.returns
returns c = record {
  pending = not_pending;
  all = λ r face nonce reason least was. least_goes_back r face nonce reason least was;
}

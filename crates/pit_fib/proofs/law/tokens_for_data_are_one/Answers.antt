use Rattle.pit_fib.proofs.LastAsks.{one_token}
use Rattle.pit_fib.proofs.law.tokens_for_data_are_one.Goals as goal

pub returns : goal.returns
returns c = one_token

use Rattle.std.proofs.Common.{subst, ap}
use Rattle.pit_fib.specs.Pit.{PitState}
use Rattle.pit_fib.specs.Tokens.{HaveNoTokens}
use Rattle.pit_fib.proofs.pit.Pit.has_tokens.Goals as goal

pub returns : goal.returns
returns c = λ e. subst HaveNoTokens (ap (λ (s : PitState). s.pending) c.self.view_is) (c.self.invariant.2 e)

use Rattle.std.proofs.Common.{subst}
use Rattle.pit_fib.specs.RecordTally.{Fits, RecordTally, sum}
use Rattle.pit_fib.proofs.record_tally.RecordTallyTallyRow.stands.Goals as goal

pub returns : goal.returns
returns c = subst (λ (t : RecordTally). Fits (sum t)) c.self.view_is c.self.invariant.1

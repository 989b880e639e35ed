use Rattle.forwarder.proofs.Ticks.{policy_ticks, run_ticks}
use Rattle.forwarder.proofs.law.denied_events_change_nothing.Goals as goal

pub returns-clause-run : goal.returns-clause-run
returns-clause-run c = λ first past other apart is ticks. run_ticks first past other apart is ticks

pub returns-clause-policy : goal.returns-clause-policy
returns-clause-policy c = λ first p past other apart is ticks h. policy_ticks first past other apart is ticks p h

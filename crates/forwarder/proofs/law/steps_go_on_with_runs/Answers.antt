use Rattle.forwarder.proofs.Standing.{step_goes_on}
use Rattle.forwarder.proofs.law.steps_go_on_with_runs.Goals as goal

pub returns : goal.returns
returns c = step_goes_on

use Rattle.std.proofs.Common.{refl}
use Rattle.forwarder.specs.State.{state_of}
use Rattle.forwarder.proofs.GoingOn.{rules_step}
use Rattle.forwarder.proofs.state.State.replace_rules.Goals as goal

pub returns-clause-step : goal.returns-clause-step
returns-clause-step c =
    rules_step (state_of c.args.self.now) (state_of c.pass_time.new.self) _ c.args.rules c.args.keys c.args.now c.pass_time.ensures.later refl refl refl

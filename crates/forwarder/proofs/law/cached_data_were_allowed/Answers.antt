use Rattle.forwarder.proofs.CachedRuns.{cached_came_allowed}
use Rattle.forwarder.proofs.law.cached_data_were_allowed.Goals as goal

pub returns : goal.returns
returns c = λ first past d is h. cached_came_allowed first past d is h

use Rattle.interest_pipeline.proofs.Sound.{sound}
use Rattle.interest_pipeline.proofs.law.the_timeout_is_within_its_limits.Goals as goal

pub returns : goal.returns
returns c limit retries calls = (sound limit retries calls).rto

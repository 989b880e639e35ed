use Rattle.std.proofs.Common.{arith}
use Rattle.interest_pipeline.proofs.Counting.{progress}
use Rattle.interest_pipeline.proofs.Expiring.{expires}
use Rattle.interest_pipeline.proofs.Runs.{done_answered, kept}
use Rattle.interest_pipeline.proofs.law.no_segment_is_forgotten.Goals as goal

pub returns-clause-kept : goal.returns-clause-kept
returns-clause-kept c limit retries n calls some wanted = kept limit retries n calls some wanted

pub returns-clause-progress : goal.returns-clause-progress
returns-clause-progress c = progress

pub returns-clause-done : goal.returns-clause-done
returns-clause-done c limit retries last n calls is ended below = done_answered limit retries n calls (omega arith)

pub returns-clause-expires : goal.returns-clause-expires
returns-clause-expires c = expires

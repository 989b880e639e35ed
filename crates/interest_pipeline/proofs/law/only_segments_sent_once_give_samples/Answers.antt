use Rattle.interest_pipeline.proofs.GivingUp.{no_sample_after}
use Rattle.interest_pipeline.proofs.law.only_segments_sent_once_give_samples.Goals as goal

pub returns : goal.returns
returns c = no_sample_after

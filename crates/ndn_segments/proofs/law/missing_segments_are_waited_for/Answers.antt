use Rattle.ndn_segments.proofs.Complete.{waits}
use Rattle.ndn_segments.proofs.law.missing_segments_are_waited_for.Goals as goal

pub returns : goal.returns
returns c = waits

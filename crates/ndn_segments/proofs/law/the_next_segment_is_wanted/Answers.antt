use Rattle.ndn_segments.proofs.Complete.{next_wanted, wanted_fits}
use Rattle.ndn_segments.proofs.law.the_next_segment_is_wanted.Goals as goal

pub returns-clause-next : goal.returns-clause-next
returns-clause-next c = next_wanted

pub returns-clause-accepted : goal.returns-clause-accepted
returns-clause-accepted c = wanted_fits

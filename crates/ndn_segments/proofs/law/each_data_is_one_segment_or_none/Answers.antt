use Rattle.ndn_segments.proofs.Apart.{one_segment, no_segment, one_version}
use Rattle.ndn_segments.proofs.law.each_data_is_one_segment_or_none.Goals as goal

pub returns-clause-one : goal.returns-clause-one
returns-clause-one c = one_segment

pub returns-clause-none : goal.returns-clause-none
returns-clause-none c = no_segment

pub returns-clause-version : goal.returns-clause-version
returns-clause-version c = one_version

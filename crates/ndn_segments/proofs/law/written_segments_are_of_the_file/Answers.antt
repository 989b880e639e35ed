use Rattle.ndn_segments.proofs.Apart.{asked_len, of_the_file}
use Rattle.ndn_segments.proofs.law.written_segments_are_of_the_file.Goals as goal

pub returns-clause-len : goal.returns-clause-len
returns-clause-len c = asked_len

pub returns-clause-segment : goal.returns-clause-segment
returns-clause-segment c = of_the_file

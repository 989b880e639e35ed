use Rattle.ndn_segments.proofs.Assembled.{one_file}
use Rattle.ndn_segments.proofs.law.segments_assemble_one_file.Goals as goal

pub returns : goal.returns
returns c = one_file

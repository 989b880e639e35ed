use Rattle.std.proofs.Common.{ap, ◌∙◌}
use Rattle.ndn_streams.specs.Reading.{front_of}
use Rattle.ndn_streams.proofs.Streams.{front_empty}
use Rattle.ndn_streams.proofs.cutter.Cutter.new.Goals as goal

pub invariant_of-result : goal.invariant_of-result
invariant_of-result c = (c.in_ok-buffer.ensures.capacity, ap front_of c.in_ok-buffer.ensures.items ∙ front_empty)

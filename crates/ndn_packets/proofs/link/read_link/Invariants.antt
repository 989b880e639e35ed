use Rattle.std.proofs.Common.{◌≡◌, length}
use Rattle.ndn_tlv.specs.Reading.{elements_of}
use Rattle.ndn_packets.specs.SoFar.{link_so_far}
use Rattle.ndn_packets.specs.FrameReading.{no_headers_yet, link_from}
use Rattle.ndn_packets.proofs.link.read_link.Given as goal

abbrev pub invariant-loop-rest : goal.invariant-loop-rest
invariant-loop-rest l = link_from (link_so_far l.headers) (elements_of l.rest) ≡ link_from no_headers_yet (elements_of l.fn.value)

abbrev pub decreases-loop-rest : goal.decreases-loop-rest
decreases-loop-rest l = length l.rest

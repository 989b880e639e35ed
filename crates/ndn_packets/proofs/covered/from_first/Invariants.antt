use Rattle.std.proofs.Common.{◌≡◌, length}
use Rattle.ndn_packets.specs.Covered.{from_first}
use Rattle.ndn_packets.proofs.covered.from_first.Given as goal

-- `from_first` returns for the remaining input `rest` what it returns for all octets
abbrev pub invariant-loop-element : goal.invariant-loop-element
invariant-loop-element l = from_first l.kind l.rest ≡ from_first l.kind l.octets

abbrev pub decreases-loop-element : goal.decreases-loop-element
decreases-loop-element l = length l.rest

use Rattle.std.proofs.Common.{◌≤◌, length}
use Rattle.ndn_names.proofs.Names.{IsOn}
use Rattle.ndn_names.proofs.name.check_components.Given as goal

-- `count` components, at most 64, have been read, and the octets `rest` are still to be read
abbrev pub invariant-loop-rest : goal.invariant-loop-rest
invariant-loop-rest l = (l.count ≤ 64) × IsOn l.count l.rest l.octets

abbrev pub decreases-loop-rest : goal.decreases-loop-rest
decreases-loop-rest l = length l.rest

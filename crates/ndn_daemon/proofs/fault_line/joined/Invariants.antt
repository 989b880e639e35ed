use Rattle.std.proofs.Common.{◌≡◌, map, take}
use Rattle.ndn_daemon.specs.FaultLine.{in_line}
use Rattle.ndn_daemon.proofs.fault_line.joined.Given as goal

abbrev pub invariant-loop-octet : goal.invariant-loop-octet
invariant-loop-octet l = l.words.items ≡ map in_line (take l.octet-index l.text)

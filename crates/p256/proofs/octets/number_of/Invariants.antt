use Rattle.std.proofs.Common.{◌≡◌, take}
use Rattle.p256.specs.Integer.{value}
use Rattle.p256.specs.Octets.{big_endian}
use Rattle.p256.proofs.octets.number_of.Given as goal

abbrev pub invariant-loop-octet : goal.invariant-loop-octet
invariant-loop-octet l = value l.number ≡ big_endian (take l.octet-index l.octets)

use Rattle.std.proofs.Common.{length}
use Rattle.ndn_names.specs.UriReading.{hex_in}
use Rattle.ndn_names.proofs.Octets.{HasPut}
use Rattle.ndn_names.proofs.component_text.put_hexadecimal.Given as goal

abbrev pub invariant-loop-high : goal.invariant-loop-high
invariant-loop-high l = HasPut hex_in l.fn.out.items l.out.items l.text l.rest

abbrev pub decreases-loop-high : goal.decreases-loop-high
decreases-loop-high l = length l.rest

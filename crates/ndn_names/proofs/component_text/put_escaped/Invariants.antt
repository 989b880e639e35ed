use Rattle.std.proofs.Common.{length}
use Rattle.ndn_names.specs.UriReading.{octets_in}
use Rattle.ndn_names.proofs.Octets.{HasPut}
use Rattle.ndn_names.proofs.component_text.put_escaped.Given as goal

abbrev pub invariant-loop-first : goal.invariant-loop-first
invariant-loop-first l = HasPut octets_in l.fn.out.items l.out.items l.text l.rest

abbrev pub decreases-loop-first : goal.decreases-loop-first
decreases-loop-first l = length l.rest

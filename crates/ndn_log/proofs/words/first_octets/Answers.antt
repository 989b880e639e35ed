use Rattle.std.proofs.Common.{arith, sym}
use Rattle.std.proofs.lemmas.List.{length-take-le, take_all}
use Rattle.ndn_log.specs.declared.words.TheConstants.{SHOWN_OCTETS}
use Rattle.ndn_log.proofs.words.first_octets.Goals as goal

pub slice_bounds-result-end : goal.slice_bounds-result-end
slice_bounds-result-end c = sym (length-take-le 32 c.args.octets.now (omega arith))

pub returns-else-octets-gt-SHOWN_OCTETS : goal.returns-else-octets-gt-SHOWN_OCTETS
returns-else-octets-gt-SHOWN_OCTETS c = sym (take_all SHOWN_OCTETS c.args.octets.now (omega arith))

use Rattle.std.proofs.Common.{length, List}
use Rattle.std.specs.Prelude.{IsUtf8}
use Rattle.ndn_tlv.specs.Element.{Field}
use Rattle.ndn_names.proofs.NameReading.{HasNamed}
use Rattle.ndn_names.proofs.uri_reader.count_pieces.Given as goal

abbrev pub invariant-loop-rest : goal.invariant-loop-rest
invariant-loop-rest l = ((cs : List Field) × HasNamed l.count cs l.text l.rest) × IsUtf8 l.rest

abbrev pub decreases-loop-rest : goal.decreases-loop-rest
decreases-loop-rest l = length l.rest

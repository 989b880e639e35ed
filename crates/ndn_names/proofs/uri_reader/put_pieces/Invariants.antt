use Rattle.std.proofs.Common.{◌≡◌, ◌++◌, length, List}
use Rattle.std.specs.Prelude.{IsUtf8}
use Rattle.ndn_tlv.specs.Element.{Field}
use Rattle.ndn_names.specs.Name.{octets_of}
use Rattle.ndn_names.proofs.NameReading.{HasNamed}
use Rattle.ndn_names.proofs.uri_reader.put_pieces.Given as goal

abbrev pub invariant-loop-rest : goal.invariant-loop-rest
invariant-loop-rest l =
    ((cs : List Field) × HasNamed l.count cs l.text l.rest × (l.out.items ≡ l.fn.out.items ++ octets_of cs)) × IsUtf8 l.rest

abbrev pub decreases-loop-rest : goal.decreases-loop-rest
decreases-loop-rest l = length l.rest

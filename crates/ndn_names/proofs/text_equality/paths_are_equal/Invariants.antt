use Rattle.std.proofs.Common.{length, List}
use Rattle.std.specs.Prelude.{IsUtf8}
use Rattle.ndn_tlv.specs.Element.{Field}
use Rattle.ndn_names.proofs.NameReading.{HasNamed}
use Rattle.ndn_names.proofs.text_equality.paths_are_equal.Given as goal

abbrev pub invariant-loop-a_rest : goal.invariant-loop-a_rest
invariant-loop-a_rest l =
    ((cs : List Field) × HasNamed l.count cs l.a l.a_rest × HasNamed l.count cs l.b l.b_rest) × IsUtf8 l.a_rest × IsUtf8 l.b_rest

abbrev pub decreases-loop-a_rest : goal.decreases-loop-a_rest
decreases-loop-a_rest l = length l.a_rest

use Rattle.std.proofs.Common.{◌≡◌, List, take, Some}
use Rattle.std.specs.Prelude.{IsUtf8}
use Rattle.ndn_tlv.specs.Element.{Field}
use Rattle.key_files.specs.KeyFile.{lines_of}
use Rattle.key_files.specs.KeyCheck.{lines_have_name}
use Rattle.key_files.specs.KeyReading.{name_of}
use Rattle.key_files.proofs.key_check.have_name.Given as goal

abbrev pub invariant-loop-left : goal.invariant-loop-left
invariant-loop-left l =
    ((name : List Field) → name_of l.uri ≡ Some name → lines_have_name name (take l.lines (lines_of l.text)) ≡ lines_have_name name (take l.left (lines_of l.rest)))
    × IsUtf8 l.rest

abbrev pub decreases-loop-left : goal.decreases-loop-left
decreases-loop-left l = l.left

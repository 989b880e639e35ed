use Rattle.std.proofs.Common.{flat_map, take}
use Rattle.ndn_log.specs.Line.{AreLogged}
use Rattle.ndn_log.specs.Notes.{left_texts}
use Rattle.ndn_log.proofs.notes.put_faces_left.Given as goal

abbrev pub invariant-loop-line : goal.invariant-loop-line
invariant-loop-line l = AreLogged l.fn.text.items l.text.items l.moment (flat_map left_texts (take l.line-index l.shown))

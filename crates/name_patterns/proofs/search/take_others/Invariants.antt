use Rattle.std.proofs.Common.{◌≡◌, length, map}
use Rattle.ndn_names.specs.View.{components}
use Rattle.name_patterns.specs.Greedy.{AreTaken}
use Rattle.name_patterns.specs.Shown.{atom_of}
use Rattle.name_patterns.proofs.search.take_others.Given as goal

abbrev pub invariant-loop-i : goal.invariant-loop-i
invariant-loop-i l =
    (length l.starts ≡ 35) × AreTaken (map atom_of l.atoms) (components l.fn.name) l.i l.place l.starts

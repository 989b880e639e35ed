use Rattle.std.proofs.Common.{◌≡◌, ◌+◌, ◌≤◌, length, map, drop}
use Rattle.ndn_names.specs.View.{components_left}
use Rattle.name_patterns.specs.Greedy.{AreTaken}
use Rattle.name_patterns.specs.Shown.{atom_of}
use Rattle.name_patterns.proofs.search.take_singles.Given as goal

abbrev pub invariant-loop-i : goal.invariant-loop-i
invariant-loop-i l =
    (length l.starts ≡ 35)
    × (l.tests ≤ l.fn.tests + l.i)
    × (components_left l.components ≡ drop l.i (components_left l.fn.components))
    × AreTaken (map atom_of l.atoms) (components_left l.fn.components) l.i l.i l.starts
    × (l.fn.tests ≤ l.tests)

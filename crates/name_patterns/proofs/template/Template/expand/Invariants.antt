use Rattle.std.proofs.Common.{◌≡◌, map, take}
use Rattle.ndn_names.specs.View.{components}
use Rattle.name_patterns.specs.Template.{expansion_of}
use Rattle.name_patterns.specs.Shown.{part_of}
use Rattle.name_patterns.proofs.template.Template.expand.Given as goal

abbrev pub invariant-loop-part : goal.invariant-loop-part
invariant-loop-part l = l.expanded ≡ expansion_of (map part_of (take l.part-index l.part-items)) l.captures (components l.name)

use Rattle.std.proofs.Common.{◌≡◌, ◌+◌, map, take}
use Rattle.std.specs.List.{sum_by}
use Rattle.name_patterns.specs.Template.{part_len}
use Rattle.name_patterns.specs.Shown.{part_of}
use Rattle.name_patterns.proofs.template.Template.is_too_long.Given as goal

abbrev pub invariant-loop-part : goal.invariant-loop-part
invariant-loop-part l = l.room + sum_by (part_len l.captures) (map part_of (take l.part-index l.part-items)) ≡ 64

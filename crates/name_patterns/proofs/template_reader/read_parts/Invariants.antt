use Rattle.std.proofs.Common.{length, ◌≤◌, map}
use Rattle.std.specs.Prelude.{IsUtf8}
use Rattle.name_patterns.specs.Shown.{part_of}
use Rattle.name_patterns.proofs.PartReading.{HasParts}
use Rattle.name_patterns.proofs.template_reader.read_parts.Given as goal

abbrev pub invariant-loop-rest : goal.invariant-loop-rest
invariant-loop-rest l =
    record { read : HasParts l.groups (map part_of l.parts.items) l.text l.rest; shorter : length l.rest ≤ length l.text; utf8 : IsUtf8 l.rest }

abbrev pub decreases-loop-rest : goal.decreases-loop-rest
decreases-loop-rest l = length l.rest

use Rattle.std.proofs.Common.{length, ◌≤◌, map}
use Rattle.std.specs.Prelude.{IsUtf8}
use Rattle.name_patterns.specs.Shown.{field_of}
use Rattle.name_patterns.proofs.ListReading.{HasListed}
use Rattle.name_patterns.proofs.test_reader.read_texts.Given as goal

abbrev pub invariant-loop-inner : goal.invariant-loop-inner
invariant-loop-inner l =
    record { listed : HasListed (map field_of l.texts.items) l.is_inner l.text l.rest; shorter : length l.rest ≤ length l.text; utf8 : IsUtf8 l.rest }

abbrev pub decreases-loop-inner : goal.decreases-loop-inner
decreases-loop-inner l = length l.rest

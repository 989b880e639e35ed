use Rattle.std.proofs.Common.{length, ◌≤◌}
use Rattle.std.specs.Prelude.{IsUtf8}
use Rattle.name_patterns.specs.PatternReading.{IsDraft}
use Rattle.name_patterns.specs.Shown.{draft_of}
use Rattle.name_patterns.proofs.ItemReading.{HasItems}
use Rattle.name_patterns.proofs.pattern_reader.read_items.Given as goal

abbrev pub invariant-loop-rest : goal.invariant-loop-rest
invariant-loop-rest l =
    record { read : HasItems l.len (draft_of l.fn.begun) l.items (draft_of l.draft) l.rest; limits : IsDraft 1 (draft_of l.draft); fits : length l.rest ≤ l.len; utf8 : IsUtf8 l.rest }

abbrev pub decreases-loop-rest : goal.decreases-loop-rest
decreases-loop-rest l = length l.rest

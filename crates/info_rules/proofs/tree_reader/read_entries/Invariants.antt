use Rattle.std.proofs.Common.{◌≡◌, ◌+◌, ◌≤◌, length}
use Rattle.std.specs.Prelude.{IsUtf8}
use Rattle.info_rules.specs.Words.{tokens_from, Between}
use Rattle.info_rules.specs.TreeReading.{begun, with_tokens}
use Rattle.info_rules.specs.Shown.{draft_of}
use Rattle.info_rules.proofs.tree_reader.read_entries.Given as goal

abbrev pub invariant-loop-found : goal.invariant-loop-found
invariant-loop-found l =
    record { read : with_tokens begun (tokens_from Between 1 l.text) ≡ with_tokens (draft_of l.draft) (tokens_from Between l.line l.rest); depth : l.draft.depth + length l.rest ≤ length l.text; fits : l.line + length l.rest ≤ 1 + length l.text; utf8 : IsUtf8 l.rest }

abbrev pub decreases-loop-found : goal.decreases-loop-found
decreases-loop-found l = length l.rest

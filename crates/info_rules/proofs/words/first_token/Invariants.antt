use Rattle.std.proofs.Common.{◌≡◌, ◌+◌, ◌≤◌, length}
use Rattle.std.specs.Prelude.{IsUtf8}
use Rattle.info_rules.specs.Words.{tokens_from, Between}
use Rattle.info_rules.proofs.words.first_token.Given as goal

abbrev pub invariant-loop-rest : goal.invariant-loop-rest
invariant-loop-rest l =
    record { read : tokens_from Between l.fn.first_line l.text ≡ tokens_from Between l.line l.rest; shorter : length l.rest ≤ length l.text; fits : l.line + length l.rest ≤ l.fn.first_line + length l.text; utf8 : IsUtf8 l.rest }

abbrev pub decreases-loop-rest : goal.decreases-loop-rest
decreases-loop-rest l = length l.rest

use Rattle.std.proofs.Common.{◌≡◌, ◌++◌, length}
use Rattle.std.specs.Prelude.{IsUtf8, string_bytes}
use Rattle.info_rules.specs.Words.{unescaped}
use Rattle.info_rules.proofs.unescape.unescaped.Given as goal

abbrev pub invariant-loop-before : goal.invariant-loop-before
invariant-loop-before l = (unescaped l.word ≡ string_bytes l.text ++ unescaped l.rest) × IsUtf8 l.rest

abbrev pub decreases-loop-before : goal.decreases-loop-before
decreases-loop-before l = length l.rest

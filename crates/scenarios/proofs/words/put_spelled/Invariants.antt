use Rattle.std.proofs.Common.{◌≡◌, ◌++◌, length}
use Rattle.scenarios.specs.Words.{spelled}
use Rattle.scenarios.proofs.words.put_spelled.Given as goal

-- the text with the rest of the line spelled out is what is wanted in the end
abbrev pub invariant-loop-name : goal.invariant-loop-name
invariant-loop-name l = l.text.items ++ spelled l.words l.rest ≡ l.initial.text.items ++ spelled l.words l.fn.line

abbrev pub decreases-loop-name : goal.decreases-loop-name
decreases-loop-name l = length l.rest

use Rattle.std.proofs.Common.{◌≡◌, drop}
use Rattle.scenarios.specs.Words.{meaning_of as meaning}
use Rattle.scenarios.proofs.words.meaning_of.Given as goal

-- none of the words before this place has the name
abbrev pub invariant-loop-word : goal.invariant-loop-word
invariant-loop-word l = meaning l.words l.name ≡ meaning (drop l.word-index l.words) l.name

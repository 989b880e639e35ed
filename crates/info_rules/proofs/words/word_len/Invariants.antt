use Rattle.std.proofs.Common.{◌≡◌, ℕ, ◌<◌, get_or, false}
use Rattle.info_rules.specs.Words.{is_separator}
use Rattle.info_rules.proofs.words.word_len.Given as goal

abbrev pub invariant-loop-place : goal.invariant-loop-place
invariant-loop-place l = (k : ℕ) → k < l.place → is_separator (get_or l.text k 0) ≡ false

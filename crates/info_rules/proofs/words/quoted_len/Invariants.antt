use Rattle.info_rules.proofs.Scanning.{IsSearched}
use Rattle.info_rules.proofs.words.quoted_len.Given as goal

abbrev pub invariant-loop-place : goal.invariant-loop-place
invariant-loop-place l = IsSearched l.text l.place l.is_escaped

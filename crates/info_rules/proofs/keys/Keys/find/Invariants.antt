use Rattle.std.proofs.Common.{◌≡◌, length}
use Rattle.info_rules.specs.Keys.{named}
use Rattle.info_rules.specs.Shown.{keys_of}
use Rattle.info_rules.proofs.keys.Keys.find.Given as goal

abbrev pub decreases-loop-key : goal.decreases-loop-key
decreases-loop-key l = length l.keys.entries.now

abbrev pub invariant-loop-key : goal.invariant-loop-key
invariant-loop-key l = named l.word (keys_of l.keys) ≡ named l.word (keys_of l.self)

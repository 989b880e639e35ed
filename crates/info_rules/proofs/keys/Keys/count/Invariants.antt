use Rattle.std.proofs.Common.{◌≡◌, ◌+◌, ◌≤◌, length}
use Rattle.info_rules.specs.Keys.{named}
use Rattle.info_rules.specs.Shown.{keys_of}
use Rattle.info_rules.proofs.keys.Keys.count.Given as goal

abbrev pub decreases-loop-key : goal.decreases-loop-key
decreases-loop-key l = length l.keys.entries.now

abbrev pub invariant-loop-key : goal.invariant-loop-key
invariant-loop-key l =
    (l.count + length (named l.word (keys_of l.keys)) ≡ length (named l.word (keys_of l.self)))
    × (l.count + length l.keys.entries.now ≤ length l.self.entries.now)

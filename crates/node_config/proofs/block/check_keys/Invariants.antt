use Rattle.std.proofs.Common.{◌≡◌, map, length}
use Rattle.info_rules.specs.Shown.{keys_of}
use Rattle.node_config.specs.Keys.{keys_fault}
use Rattle.node_config.proofs.block.check_keys.Given as goal

-- the keys that are left have the fault of all keys
abbrev pub invariant-loop-key : goal.invariant-loop-key
invariant-loop-key l =
    keys_fault (map (λ word. word.now) l.words) (keys_of l.left)
    ≡ keys_fault (map (λ word. word.now) l.words) (keys_of l.keys)

abbrev pub decreases-loop-key : goal.decreases-loop-key
decreases-loop-key l = length l.left.entries.now

use Rattle.std.proofs.Common.{◌≡◌, map, length}
use Rattle.std.specs.List.{flat_map}
use Rattle.info_rules.specs.Faults.{after}
use Rattle.info_rules.specs.Walk.{unknown_faults}
use Rattle.info_rules.specs.Shown.{form_of, keys_of}
use Rattle.info_rules.proofs.walk.judge_unknown.Given as goal

abbrev pub decreases-loop-key : goal.decreases-loop-key
decreases-loop-key l = length l.left.entries.now

abbrev pub invariant-loop-key : goal.invariant-loop-key
invariant-loop-key l =
    after l.report (flat_map (unknown_faults (map form_of l.forms)) (keys_of l.left)) ≡ after l.fn.report (flat_map (unknown_faults (map form_of l.forms)) (keys_of l.keys))

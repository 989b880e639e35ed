use Rattle.std.proofs.Common.{◌≡◌, map, length}
use Rattle.std.specs.List.{flat_map}
use Rattle.info_rules.specs.Faults.{after}
use Rattle.info_rules.specs.Walk.{times_faults}
use Rattle.info_rules.specs.Shown.{form_of, keys_of}
use Rattle.info_rules.proofs.walk.judge_all_times.Given as goal

abbrev pub decreases-loop-form : goal.decreases-loop-form
decreases-loop-form l = length l.left

abbrev pub invariant-loop-form : goal.invariant-loop-form
invariant-loop-form l =
    after l.report (flat_map (times_faults (keys_of l.keys)) (map form_of l.left)) ≡ after l.fn.report (flat_map (times_faults (keys_of l.keys)) (map form_of l.forms))

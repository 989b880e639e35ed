use Rattle.std.proofs.Common.{◌≡◌, length}
use Rattle.std.specs.List.{flat_map}
use Rattle.info_rules.specs.Faults.{after}
use Rattle.info_rules.specs.Keys.{named, others_of}
use Rattle.info_rules.specs.Walk.{again_faults}
use Rattle.info_rules.specs.Shown.{keys_of, takes_of}
use Rattle.info_rules.proofs.walk.judge_second.Given as goal

abbrev pub decreases-loop-key : goal.decreases-loop-key
decreases-loop-key l = length l.left.entries.now

abbrev pub invariant-loop-key : goal.invariant-loop-key
invariant-loop-key l =
    after l.report (flat_map (again_faults (takes_of l.form.1)) (named l.form.0.now (keys_of l.left)))
    ≡ after l.fn.report (flat_map (again_faults (takes_of l.form.1)) (others_of (named l.form.0.now (keys_of l.keys))))

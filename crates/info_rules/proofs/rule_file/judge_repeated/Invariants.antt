use Rattle.std.proofs.Common.{◌≡◌, length}
use Rattle.std.specs.List.{flat_map}
use Rattle.info_rules.specs.Faults.{after}
use Rattle.info_rules.specs.RuleFile.{same_id_faults}
use Rattle.info_rules.specs.Shown.{keys_of}
use Rattle.info_rules.proofs.rule_file.judge_repeated.Given as goal

abbrev pub decreases-loop-key : goal.decreases-loop-key
decreases-loop-key l = length l.left.entries.now

abbrev pub invariant-loop-key : goal.invariant-loop-key
invariant-loop-key l = after l.report (flat_map (same_id_faults l.id) (keys_of l.left)) ≡ after l.fn.report (flat_map (same_id_faults l.id) (keys_of l.later))

use Rattle.std.proofs.Common.{◌≡◌, length}
use Rattle.std.specs.List.{flat_map}
use Rattle.std.specs.Prelude.{codes}
use Rattle.info_rules.specs.Faults.{after}
use Rattle.info_rules.specs.Keys.{named, others_of}
use Rattle.info_rules.specs.RuleBlock.{further_fault}
use Rattle.info_rules.specs.Shown.{keys_of}
use Rattle.info_rules.proofs.rule_block.judge_further.Given as goal

abbrev pub decreases-loop-key : goal.decreases-loop-key
decreases-loop-key l = length l.left.entries.now

abbrev pub invariant-loop-key : goal.invariant-loop-key
invariant-loop-key l =
    after l.report (flat_map (further_fault l.first_unverified) (named (codes "checker") (keys_of l.left)))
    ≡ after l.fn.report (flat_map (further_fault l.first_unverified) (others_of (named (codes "checker") (keys_of l.keys))))

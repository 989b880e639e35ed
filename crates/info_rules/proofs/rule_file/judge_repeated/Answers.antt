use Rattle.std.proofs.Common.{◌∙◌}
use Rattle.info_rules.proofs.Reports.{after_first}
use Rattle.info_rules.proofs.rule_file.judge_repeated.Goals as goal

pub loop-key-preserved : goal.loop-key-preserved
loop-key-preserved c = rw c.judge_same_id.ensures (after_first _ _ _ _ _ c.in-Some-split_first.ensures.0 ∙ c.loop-key.invariant)

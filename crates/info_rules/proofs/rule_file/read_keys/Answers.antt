use Rattle.std.proofs.Common.{refl}
use Rattle.info_rules.specs.RuleBlock.{rule_in}
use Rattle.info_rules.specs.AnchorBlock.{anchor_in}
use Rattle.info_rules.specs.RuleFile.{rules_of_keys}
use Rattle.info_rules.proofs.FoundParts.{beside_shown}
use Rattle.info_rules.proofs.rule_file.read_keys.Goals as goal

pub returns : goal.returns
unfolding rules_of_keys rule_in anchor_in
returns c =
    rw (
      c.beside-2.ensures,
      c.beside.ensures,
      c.err.ensures.value,
      beside_shown (λ all. all.items) (λ all. all.items) c.in_ok-fault.fault c.in_ok-rules.rules c.in_ok-anchors.anchors,
      c.in_ok-fault.ensures,
      c.in_ok-rules.ensures,
      c.in_ok-anchors.ensures,
    )
    refl

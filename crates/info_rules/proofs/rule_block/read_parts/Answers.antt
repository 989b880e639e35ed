use Rattle.std.proofs.Common.{◌≡◌}
use Rattle.std.specs.Prelude.{codes}
use Rattle.info_rules.specs.Found.{shown, each}
use Rattle.info_rules.specs.Keys.{named, says}
use Rattle.info_rules.specs.FilterBlock.{filter_in}
use Rattle.info_rules.specs.CheckerBlock.{checker_in}
use Rattle.info_rules.specs.RuleBlock.{rule_parts}
use Rattle.info_rules.specs.Shown.{keys_of}
use Rattle.info_rules.proofs.rule_block.read_parts.Goals as goal

pub returns : goal.returns
unfolding rule_parts filter_in checker_in
returns c =
    let checkers : shown (λ all. all.items) c.in_ok-checkers.checkers ≡ each (checker_in (says (codes "for") (codes "interest") (keys_of c.args.keys))) (named (codes "checker") (keys_of c.args.keys)) =
    rw c.says-for_interests.ensures at c.in_ok-checkers.ensures in
    rw (c.in_ok-head.ensures, c.in_ok-filters.ensures, checkers) at c.made_of.ensures

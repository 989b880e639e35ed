use Rattle.std.proofs.Common.{◌≡◌, ℕ, List, Bor, Err}
use Rattle.info_rules.specs.declared.rule.Kind.{Kind}
use Rattle.info_rules.specs.Found.{both}
use Rattle.info_rules.specs.RuleBlock.{rule_with}
use Rattle.info_rules.proofs.FoundParts.{three_faulty}
use Rattle.info_rules.proofs.rule_block.made_of.Goals as goal

pub returns-in-Err : goal.returns-in-Err
returns-in-Err c =
    let faulty : both c.args.head (both c.args.filters c.args.checkers) ≡ Err c.in-Err.fault = cc in
    three_faulty (λ (head : Bor (List ℕ) × Kind). (head.0.now, head.1)) (λ all. all.items) (λ all. all.items) rule_with c.args.head c.args.filters c.args.checkers c.in-Err.fault faulty

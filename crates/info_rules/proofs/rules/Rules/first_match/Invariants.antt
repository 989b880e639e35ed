use Rattle.ndn_names.specs.View.{components}
use Rattle.info_rules.proofs.Firsts.{NoneOfFirst}
use Rattle.info_rules.proofs.rules.Rules.first_match.Given as goal

abbrev pub invariant-loop-number : goal.invariant-loop-number
invariant-loop-number l = NoneOfFirst l.rule-items l.fn.kind (components l.fn.name) l.number

-- The ids of rules.
use Rattle.std.specs.Prelude.{◌≢◌, List, [], ◌∷◌, ⊤}
use Rattle.std.specs.List.{AllByRecursion}
use Rattle.info_rules.specs.Rule.{PlainRule}

-- no two rules have the same id
abbrev pub HaveOwnIds : List PlainRule → Type 0
HaveOwnIds [] = ⊤
HaveOwnIds (rule ∷ rules) = AllByRecursion (λ other. other.id ≢ rule.id) rules × HaveOwnIds rules

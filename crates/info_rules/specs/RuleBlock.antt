-- Reading `rule` blocks.
use Rattle.std.specs.Prelude.{ℕ, List, [], ◌∷◌, ◌++◌, None, Bool, codes, ◌||◌, if◌then◌else◌}
use Rattle.std.specs.List.{flat_map}
use Rattle.info_rules.specs.declared.fault.RulesFault.{RulesFault}
use Rattle.info_rules.specs.declared.fault.RulesFaultKind.TheVariants.{BadValue}
use Rattle.info_rules.specs.declared.rule.Kind.{Kind}
use Rattle.info_rules.specs.declared.rule.NameTest.{NameTest}
use Rattle.info_rules.specs.declared.rule.Checker.{Checker}
use Rattle.info_rules.specs.Blocks as blocks
use Rattle.info_rules.specs.Rule.{PlainRule}
use Rattle.info_rules.specs.Tree.{Block, blocks_of}
use Rattle.info_rules.specs.Faults.{after}
use Rattle.info_rules.specs.Found.{Found, both, beside, needed, shown, each}
use Rattle.info_rules.specs.Keys.{on_option, first_of, others_of, named, says, fault_at, block_in}
use Rattle.info_rules.specs.ValueWords.{kind_in}
use Rattle.info_rules.specs.Values.{id_in, value_in}
use Rattle.info_rules.specs.Walk.{walk_faults}
use Rattle.info_rules.specs.FilterBlock.{filter_in}
use Rattle.info_rules.specs.CheckerBlock.{checker_in}

abbrev pub rule_with : (List ℕ × Kind) × (List NameTest × List Checker) → PlainRule
rule_with read =
    record { id = read.0.0; kind = read.0.1; filters = read.1.0; checkers = read.1.1 }

abbrev pub head_in : ℕ → List Block → Found (List ℕ × Kind)
head_in line keys = both (needed line (value_in BadValue id_in (codes "id") keys))
    (needed line (value_in BadValue kind_in (codes "for") keys))

unfoldable pub rule_parts : ℕ → List Block
    → Found ((List ℕ × Kind) × (List NameTest × List Checker))
rule_parts line keys = both
    (head_in line keys)
    (both (each filter_in (named (codes "filter") keys))
    (each (checker_in (says (codes "for") (codes "interest") keys))
    (named (codes "checker") keys)))

-- the key `checker` states an unverified checker
unfoldable pub states_unverified : Block → Bool
states_unverified key = says (codes "type") (codes "unverified") (blocks_of 2 key.1)

-- the fault of a checker that is not the first of its rule: `BadValue` if this checker or the first
-- one is unverified
abbrev pub further_fault : Bool → Block → List RulesFault
further_fault first_unverified key =
    if first_unverified || states_unverified key then fault_at BadValue key ∷ [] else []

-- the faults of the checkers after the first one: an unverified checker must be the only checker of
-- its rule
unfoldable pub further_faults : List Block → List RulesFault
further_faults keys =
    on_option (λ first. flat_map (further_fault (states_unverified first))
    (others_of (named (codes "checker") keys))) [] (first_of (named (codes "checker") keys))

-- the rule that the keys of a block state, or the fault that is reported
unfoldable pub rule_of_keys : ℕ → List Block → Found PlainRule
rule_of_keys line keys =
    beside (after None (walk_faults blocks.Rule keys ++ further_faults keys))
    (shown rule_with (rule_parts line keys))

-- the rule that a key `rule` states, or the fault that is reported
unfoldable pub rule_in : Block → Found PlainRule
rule_in key = block_in 1 rule_of_keys key

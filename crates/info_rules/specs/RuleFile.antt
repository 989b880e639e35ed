-- Rule files: their faults and their rules.
use Rattle.std.specs.Prelude.{ℕ, List, [], ◌∷◌, ◌++◌, length, Option, None, nat_lt, bytes_eq, codes, if◌then◌else◌}
use Rattle.std.specs.List.{flat_map}
use Rattle.std.specs.Result.{result_err}
use Rattle.info_rules.specs.declared.fault.RulesFault.{RulesFault}
use Rattle.info_rules.specs.declared.fault.RulesFaultKind.TheVariants.{TwiceNamed}
use Rattle.info_rules.specs.Blocks.{File}
use Rattle.info_rules.specs.Tree.{PlainEntry, Block, blocks_of}
use Rattle.info_rules.specs.Rule.{PlainRule}
use Rattle.info_rules.specs.Faults.{after}
use Rattle.info_rules.specs.Found.{Found, beside, each}
use Rattle.info_rules.specs.Keys.{on_option, first_of, is_word, named, value_of, fault_at}
use Rattle.info_rules.specs.Values.{◌>>=◌}
use Rattle.info_rules.specs.Walk.{walk_faults}
use Rattle.info_rules.specs.AnchorBlock.{anchor_in}
use Rattle.info_rules.specs.RuleBlock.{rule_in}

-- ---- repeated ids

-- the first key `id` in the block of the key, or `None` if the block has no key `id` or the key is
-- not a `rule`
unfoldable pub id_key : Block → Option Block
id_key key = if is_word (codes "rule") key then first_of (named (codes "id") (blocks_of 1 key.1))
    else None

-- the fault `TwiceNamed` if the key is a `rule` with this id, otherwise no fault
unfoldable pub same_id_faults : List ℕ → Block → List RulesFault
same_id_faults id key =
    on_option (λ later. on_option
    (λ text. if bytes_eq text id then fault_at TwiceNamed later ∷ [] else []) []
    (value_of later)) [] (id_key key)

-- the faults of those rules in `later` that have the same id as the rule `key`
unfoldable pub repeated_faults : Block → List Block → List RulesFault
repeated_faults key later =
    on_option (λ id. flat_map (same_id_faults id) later) [] (id_key key >>= value_of)

-- for each pair of rules with the same id, the fault of the later rule
unfoldable pub id_faults : List Block → List RulesFault
id_faults [] = []
id_faults (key ∷ keys) = repeated_faults key keys ++ id_faults keys

-- the faults of repeated ids, unless there are more than 256 rules
abbrev pub shared_faults : List Block → List RulesFault
shared_faults keys = if nat_lt 256 (length (named (codes "rule") keys)) then [] else id_faults keys

-- ---- the file

-- the rules of the keys, one rule for each key `rule`, or the fault that is reported
unfoldable pub rules_of_keys : List Block → Found (List PlainRule)
rules_of_keys keys = beside (after None (walk_faults File keys ++ shared_faults keys))
    (beside (result_err (each anchor_in (named (codes "trust-anchor") keys)))
    (each rule_in (named (codes "rule") keys)))

-- the rules of a file, or the fault that is reported
unfoldable pub rules_in : List PlainEntry → Found (List PlainRule)
rules_in entries = rules_of_keys (blocks_of 0 entries)

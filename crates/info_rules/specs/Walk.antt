-- The faults of the keys of a block, according to the table: keys that are not in the table
-- (allowed only in a trust anchor), and keys that are given too many times. A value is checked here
-- only if its key repeats a key that the block allows once. The reader of the block checks the
-- value of the first such key.
use Rattle.std.specs.Prelude.{List, [], ◌∷◌, ◌++◌, false, if◌then◌else◌}
use Rattle.std.specs.List.{flat_map, list_any}
use Rattle.info_rules.specs.declared.fault.RulesFault.{RulesFault}
use Rattle.info_rules.specs.declared.fault.RulesFaultKind.{RulesFaultKind}
use Rattle.info_rules.specs.declared.fault.RulesFaultKind.TheVariants.{UnknownKey, BadValue, TwiceNamed}
use Rattle.info_rules.specs.Blocks.{BlockKind, Times, Once, UpTo, AnyNumber, Takes, Value, Inner}
use Rattle.info_rules.specs.Tree.{Block}
use Rattle.info_rules.specs.Table.{PlainForm, table, is_closed}
use Rattle.info_rules.specs.Keys.{on_option, is_word, named, others_of, value_of, fault_at, many_faults}
use Rattle.info_rules.specs.Values.{is_value}

abbrev pub unknown_faults : List PlainForm → Block → List RulesFault
unknown_faults forms key =
    if list_any (λ form. is_word form.word key) forms then [] else fault_at UnknownKey key ∷ []

-- the kind of the fault of a repeated key: `BadValue` if this key must have a value, but has a
-- block or has no valid value; otherwise `TwiceNamed`
abbrev pub again_kind : Takes → Block → RulesFaultKind
again_kind (Value kind) key =
    if on_option (is_value kind) false (value_of key) then TwiceNamed else BadValue
again_kind Inner key = TwiceNamed

abbrev pub again_faults : Takes → Block → List RulesFault
again_faults takes key = fault_at (again_kind takes key) key ∷ []

-- the faults for the key of `form`, if this key is given too many times
unfoldable pub times_faults : List Block → PlainForm → List RulesFault
times_faults keys form = by_times form.times
  where
    by_times : Times → List RulesFault
    by_times Once = flat_map (again_faults form.takes) (others_of (named form.word keys))
    by_times (UpTo most) = many_faults most form.word keys
    by_times AnyNumber = []

unfoldable pub walk_faults : BlockKind → List Block → List RulesFault
walk_faults block keys =
    (if is_closed block then flat_map (unknown_faults (table block)) keys else [])
    ++ flat_map (times_faults keys) (table block)

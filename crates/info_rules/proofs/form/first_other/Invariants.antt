use Rattle.std.proofs.Common.{◌≡◌, length}
use Rattle.std.specs.List.{filter_map}
use Rattle.std.specs.Option.{option_map}
use Rattle.info_rules.specs.Keys.{first_of}
use Rattle.info_rules.specs.NameTest.{other_form_of, first_other}
use Rattle.info_rules.specs.Shown.{keys_of, tested_of, name_form_of}
use Rattle.info_rules.proofs.form.first_other.Given as goal

abbrev pub decreases-loop-key : goal.decreases-loop-key
decreases-loop-key l = length l.left.entries.now

abbrev pub invariant-loop-key : goal.invariant-loop-key
invariant-loop-key l =
    first_of (filter_map (other_form_of (tested_of l.tested) (option_map name_form_of l.other)) (keys_of l.left))
    ≡ first_other (tested_of l.tested) (option_map name_form_of l.other) (keys_of l.keys)

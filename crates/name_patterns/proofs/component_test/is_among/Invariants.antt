use Rattle.std.proofs.Common.{◌≡◌, false, take, map}
use Rattle.ndn_names.specs.View.{field_of as component}
use Rattle.name_patterns.specs.Greedy.{is_among}
use Rattle.name_patterns.specs.Shown.{field_of}
use Rattle.name_patterns.proofs.component_test.is_among.Given as goal

abbrev pub invariant-loop-text : goal.invariant-loop-text
invariant-loop-text l = is_among (component l.fn.candidate) (map field_of (take l.text-index l.texts)) ≡ false

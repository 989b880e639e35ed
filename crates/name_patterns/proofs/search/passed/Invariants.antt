use Rattle.std.proofs.Common.{◌≡◌, ◌+◌, ◌<◌, ◌^◌, ◌++◌, length, map}
use Rattle.ndn_names.specs.View.{field_of, components, components_left}
use Rattle.name_patterns.specs.Greedy.{ArePassed}
use Rattle.name_patterns.specs.Shown.{test_of}
use Rattle.name_patterns.proofs.search.passed.Given as goal

abbrev pub invariant-loop-component : goal.invariant-loop-component
invariant-loop-component l =
    (map field_of l.yielded ++ components_left l.component-iterator ≡ components l.fn.name)
    × (length l.yielded ≡ l.place)
    × (l.tests ≡ l.initial.tests + l.place)
    × (l.passed < 2 ^ l.place)
    × ArePassed (test_of l.test) (map field_of l.yielded) l.passed

use Rattle.std.proofs.Common.{◌≡◌, ◌++◌, length, map}
use Rattle.ndn_names.specs.View.{field_of, components, components_left}
use Rattle.name_patterns.specs.Template.{between}
use Rattle.name_patterns.proofs.template.append_between.Given as goal

abbrev pub invariant-loop-component : goal.invariant-loop-component
invariant-loop-component l =
    (map field_of l.yielded ++ components_left l.component-iterator ≡ components l.fn.name)
    × (length l.yielded ≡ l.place)
    × (l.expanded ≡ l.initial.expanded ++ between (map field_of l.yielded) (l.start, l.end))

use Rattle.std.proofs.Common.{◌≡◌, ◌++◌, map, flat_map, codes}
use Rattle.std.specs.Fmt.{HasWritten, IsPlainFormatter}
use Rattle.ndn_names.specs.Uri.{component_text}
use Rattle.ndn_names.specs.View.{field_of, components, components_left}
use Rattle.ndn_names.proofs.uri.NameDisplay.fmt.Given as goal

abbrev pub invariant-loop-component : goal.invariant-loop-component
invariant-loop-component g l =
    (map field_of l.yielded ++ components_left l.component-iterator ≡ components l.self)
    × (IsPlainFormatter l.initial.f → HasWritten g.W.Write.write_str_gives l.initial.f (flat_map (λ p. codes "/" ++ p) (map component_text (map field_of l.yielded))) l.f)

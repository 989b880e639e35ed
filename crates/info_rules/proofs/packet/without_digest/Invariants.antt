use Rattle.std.proofs.Common.{◌≡◌, ◌-◌, ◌++◌, map, length}
use Rattle.std.specs.Prelude.{slice_get}
use Rattle.ndn_names.specs.View.{field_of, components, components_left}
use Rattle.info_rules.specs.Seen.{is_digest}
use Rattle.info_rules.proofs.packet.without_digest.Given as goal

abbrev pub invariant-loop-component : goal.invariant-loop-component
invariant-loop-component l =
    (map field_of l.yielded ++ components_left l.component-iterator ≡ components l.fn.name)
    × (l.count ≡ length l.yielded)
    × (l.ends_in_digest ≡ is_digest (slice_get (map field_of l.yielded) (l.count - 1)))

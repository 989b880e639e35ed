use Rattle.std.proofs.Common.{◌≡◌, ◌++◌, [], map, length}
use Rattle.ndn_names.specs.View.{field_of, components, components_left}
use Rattle.ndn_packets.specs.Packet.{digests_in}
use Rattle.ndn_packets.proofs.interest_writer.count_without_digest.Given as goal

abbrev pub invariant-loop-component : goal.invariant-loop-component
invariant-loop-component l =
    (map field_of l.yielded ++ components_left l.component-iterator ≡ components l.fn.name)
    × (digests_in (map field_of l.yielded) ≡ []) × (l.count ≡ length l.yielded)

use Rattle.std.proofs.Common.{◌∙◌}
use Rattle.std.specs.Cmp.Lexicographic.{slice_cmp}
use Rattle.std.specs.Ordering.{nat_cmp}
use Rattle.ndn_names.specs.Order.{name_cmp}
use Rattle.ndn_packets.specs.FullName.{all_components}
use Rattle.ndn_packets.proofs.FullNames.{full_cmp}
use Rattle.ndn_packets.proofs.full_name.FullName.compare.Goals as goal

pub returns : goal.returns
returns c =
    c.cmp.ensures ∙ (λ k. slice_cmp nat_cmp (c.as_slice.ensures.value k) (c.as_slice-2.ensures.value k))
    ∙ full_cmp c.self.inside.octets.items c.other.inside.octets.items c.self.invariant c.other.invariant
    ∙ (λ k. name_cmp (all_components (c.self.view_is k)) (all_components (c.other.view_is k)))

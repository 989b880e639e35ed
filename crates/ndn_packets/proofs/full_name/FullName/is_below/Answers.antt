use Rattle.std.proofs.Common.{ap, ◌∙◌}
use Rattle.std.specs.Cmp.Lexicographic.{slice_cmp}
use Rattle.std.specs.Ordering.{is_lt, nat_cmp}
use Rattle.ndn_names.specs.Order.{name_cmp}
use Rattle.ndn_packets.specs.FullName.{all_components}
use Rattle.ndn_packets.proofs.FullNames.{name_after}
use Rattle.ndn_packets.proofs.full_name.FullName.is_below.Goals as goal

pub returns : goal.returns
returns c = λ name h.
    c.is_lt.ensures
    ∙ ap is_lt (c.cmp.ensures ∙ ap (λ u. slice_cmp nat_cmp u c.args.octets.now) c.as_slice.ensures.value
    ∙ name_after c.self.inside.octets.items c.args.octets.now name c.self.invariant h
    ∙ ap (λ o. name_cmp (all_components o) name) c.self.view_is)

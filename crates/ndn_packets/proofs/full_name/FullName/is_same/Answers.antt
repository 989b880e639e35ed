use Rattle.std.proofs.Common.{◌∙◌, sym}
use Rattle.std.specs.Ordering.{eq_by_cmp}
use Rattle.std.proofs.lemmas.Slice.Eq.{slice_eq-Decides}
use Rattle.std.proofs.lemmas.Bool.Decides.{Decides-eqb}
use Rattle.ndn_names.specs.Order.{name_cmp}
use Rattle.ndn_packets.specs.FullName.{all_components, digest_in}
use Rattle.ndn_packets.proofs.FullNames.{other_digests}
use Rattle.ndn_packets.proofs.full_name.FullName.is_same.Goals as goal

pub returns-else-eq : goal.returns-else-eq
returns-else-eq c =
    let mine = c.digest_of.ensures ∙ (λ k. digest_in (c.as_slice-mine.ensures.value k)) in
    let its = c.digest_of-2.ensures ∙ (λ k. digest_in (c.as_slice-its.ensures.value k)) in
    c.if-eq.false
    ∙ sym (other_digests c.self.inside.octets.items c.other.inside.octets.items c.self.invariant c.other.invariant
    (λ e. let same = (slice_eq-Decides Decides-eqb _ _ _ c.eq.ensures).1 (mine ∙ e ∙ sym its) in absurd cc))
    ∙ (λ k. eq_by_cmp name_cmp (all_components (c.self.view_is k)) (all_components (c.other.view_is k)))

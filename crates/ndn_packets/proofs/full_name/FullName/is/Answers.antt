use Rattle.std.proofs.Common.{sym, ap, ◌∙◌}
use Rattle.std.proofs.lemmas.Slice.Eq.{slice_eq-Decides}
use Rattle.std.proofs.lemmas.Bool.Decides.{Decides-eqb}
use Rattle.ndn_packets.specs.FullName.{all_components}
use Rattle.ndn_packets.proofs.FullNames.{is_that}
use Rattle.ndn_packets.proofs.full_name.FullName.is.Goals as goal

pub returns : goal.returns
returns c = λ name h.
    let same = slice_eq-Decides Decides-eqb _ _ _ c.eq.ensures in
    let that = is_that c.self.inside.octets.items c.args.octets.now name c.self.invariant h in (
      λ t. ap all_components (sym c.self.view_is) ∙ that.0 (sym c.as_slice.ensures.value ∙ same.0 t),
      λ e. same.1 (c.as_slice.ensures.value ∙ that.1 (ap all_components c.self.view_is ∙ e)),
    )

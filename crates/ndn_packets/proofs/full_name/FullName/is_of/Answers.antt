use Rattle.std.proofs.Common.{◌≡◌, ℕ, ◌-◌, List, length, take, sym, ap, ◌∙◌}
use Rattle.std.proofs.lemmas.Slice.Eq.{slice_eq-Decides}
use Rattle.std.proofs.lemmas.Bool.Decides.{Decides-eqb}
use Rattle.ndn_names.specs.View.{components}
use Rattle.ndn_packets.specs.FullName.{name_octets}
use Rattle.ndn_packets.proofs.FullNames.{is_front}
use Rattle.ndn_packets.proofs.full_name.FullName.is_of.Goals as goal

pub returns : goal.returns
returns c =
    let u = c.self.inside.octets.items in
    let same = slice_eq-Decides Decides-eqb _ _ _ c.eq.ensures in
    let part : take (length c.as_slice-octets.result.now - 34) c.as_slice-octets.result.now ≡ name_octets u = ap (λ (s : List ℕ). take (length s - 34) s) c.as_slice-octets.ensures.value in
    let front = is_front u c.as_octets.result.now (components c.args.name) c.self.invariant c.as_octets.ensures in (
      λ t. front.0 (same.0 t ∙ part) ∙ ap (λ f. f.name) c.self.view_is,
      λ e. same.1 (front.1 (e ∙ ap (λ f. f.name) (sym c.self.view_is)) ∙ sym part),
    )

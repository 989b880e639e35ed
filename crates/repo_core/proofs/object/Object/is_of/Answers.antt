use Rattle.std.proofs.Common.{◌≡◌, ℕ, List, sym, ap, subst, ◌∙◌}
use Rattle.std.proofs.lemmas.Slice.Eq.{slice_eq-Decides}
use Rattle.std.proofs.lemmas.Bool.Decides.{Decides-eqb}
use Rattle.sha2.specs.Sha256.{sha256}
use Rattle.ndn_tlv.specs.Element.{Field}
use Rattle.ndn_names.specs.View.{components}
use Rattle.ndn_packets.specs.FullName.{all_components}
use Rattle.repo_core.specs.declared.object.Stored.{Stored}
use Rattle.repo_core.proofs.FullNames.{one_object}
use Rattle.repo_core.proofs.object.Object.is_of.Goals as goal
use Rattle.repo_core.proofs.object.Object.is_of.Goals.{After-eq}

abbrev seen : Stored → List Field × List ℕ
seen s = (all_components s.full_name, s.octets.items)

view : (c : After-eq) → seen c.deref-stored.result.now ≡ c.args.self.now
view c = ap seen c.deref-stored.ensures ∙ c.self.view_is

pub returns-then-eq : goal.returns-then-eq
returns-then-eq c =
    let s = c.deref-stored.result.now in
    let b = (goal.at.returns-then-eq c).After-eq in
    let same = slice_eq-Decides Decides-eqb _ _ _ c.eq.ensures in
    let digest = subst (λ (s : Stored). s.full_name.digest ≡ sha256 s.octets.items) (sym c.deref-stored.ensures) c.self.invariant in
    let one = one_object s.full_name s.octets.items c.args.packet.now.whole.now (components c.args.packet.now.name) digest in (
      λ t. sym (view b) ∙ one.0 (sym c.as_slice.ensures.value ∙ same.0 c.if-eq.true, c.is_of.ensures.0 t),
      λ e. c.is_of.ensures.1 (one.1 (view b ∙ e)).1,
    )

pub returns-else-eq : goal.returns-else-eq
returns-else-eq c =
    let b = (goal.at.returns-else-eq c).After-eq in
    let same = slice_eq-Decides Decides-eqb _ _ _ c.eq.ensures in (
      λ t. absurd cc,
      λ e. absurd (let yes = same.1 (c.as_slice.ensures.value ∙ ap (λ o. o.1) (view b ∙ e)) in let never = c.if-eq.false in cc),
    )

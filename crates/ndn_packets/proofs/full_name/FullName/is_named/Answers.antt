use Rattle.std.proofs.Common.{sym, ap, ◌∙◌, inl, inr}
use Rattle.std.proofs.lemmas.Slice.Eq.{slice_eq-Decides}
use Rattle.std.proofs.lemmas.Bool.Decides.{Decides-eqb}
use Rattle.ndn_names.specs.View.{components}
use Rattle.ndn_packets.specs.FullName.{all_components}
use Rattle.ndn_packets.proofs.FullNames.{is_full}
use Rattle.ndn_packets.proofs.full_name.FullName.is_named.Goals as goal

pub returns-then-eq : goal.returns-then-eq
returns-then-eq c =
    let same = slice_eq-Decides Decides-eqb _ _ _ c.eq.ensures in
    let full = is_full c.self.inside.octets.items c.as_octets.result.now (components c.args.name) c.self.invariant c.as_octets.ensures in (
      λ _. inr (full.0 (same.0 c.if-eq.true ∙ c.as_slice.ensures.value) ∙ ap all_components c.self.view_is),
      λ _. c.if-eq.true,
    )

pub returns-else-eq : goal.returns-else-eq
returns-else-eq c =
    let same = slice_eq-Decides Decides-eqb _ _ _ c.eq.ensures in
    let full = is_full c.self.inside.octets.items c.as_octets.result.now (components c.args.name) c.self.invariant c.as_octets.ensures in (
      λ t. inl (c.is_of.ensures.0 t),
      λ h. elim h [
        | inl e ↦ c.is_of.ensures.1 e
        | inr e ↦ absurd (let yes = same.1 (full.1 (e ∙ ap all_components (sym c.self.view_is)) ∙ sym c.as_slice.ensures.value) in let never = c.if-eq.false in cc)
      ],
    )
